use Rattle.std.proofs.Common.{rules}
use Rattle.lists_order.proofs.PointOrderLaws.{missing}
use Rattle.lists_order.proofs.is_missing.Goals as goal

pub returns-then-kept-i : goal.returns-then-kept-i
returns-then-kept-i c = search (rules, missing)

pub returns-else-kept-i : goal.returns-else-kept-i
returns-else-kept-i c = search (rules, missing)
