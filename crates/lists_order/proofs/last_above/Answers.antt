-- The last number of a rising list tells of all.
use Rattle.std.proofs.Common.{rules}
use Rattle.lists_order.proofs.OrderLaws.{by_Last}
use Rattle.lists_order.proofs.last_above.Goals as goal

pub returns-in-Some : goal.returns-in-Some
returns-in-Some c = search (rules, by_Last)

pub returns-in-None : goal.returns-in-None
returns-in-None c = search (rules, by_Last)
