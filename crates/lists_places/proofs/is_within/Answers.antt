-- Both looks have to tell it.
use Rattle.std.proofs.Common.{rules}
use Rattle.laws.proofs.ChoiceLaws.{all_of}
use Rattle.lists_places.proofs.is_within.Goals as goal

pub returns-then-reaches : goal.returns-then-reaches
returns-then-reaches c = search (rules, all_of)

pub returns-else-reaches : goal.returns-else-reaches
returns-else-reaches c = search (rules, all_of)
