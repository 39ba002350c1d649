-- What does not fall rises.
use Rattle.std.proofs.Common.{rules}
use Rattle.lists_order.proofs.OrderLaws.{rising_told}
use Rattle.lists_checks.proofs.bad_requested.Goals as goal

pub last_reaches-requires : goal.last_reaches-requires
last_reaches-requires c = search (rules, rising_told)
