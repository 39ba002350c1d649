use Rattle.plan_make12.proofs.Making12Laws.{made12}
use Rattle.plan_make12.proofs.size12.Goals as goal

pub format12_size-requires : goal.format12_size-requires
format12_size-requires c = search made12

pub returns-clause-size_value : goal.returns-clause-size_value
returns-clause-size_value c = search made12
