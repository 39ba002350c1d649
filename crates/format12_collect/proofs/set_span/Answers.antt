-- What is full stays full.
use Rattle.format12_collect.proofs.BlocksLaws.{full_set}
use Rattle.format12_collect.proofs.set_span.Goals as goal

pub returns-clause-full_2 : goal.returns-clause-full_2
returns-clause-full_2 c = search full_set
