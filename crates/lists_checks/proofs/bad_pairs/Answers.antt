-- What does not fall rises.
use Rattle.std.proofs.Common.{rules}
use Rattle.lists_order.proofs.OrderLaws.{rising_told}
use Rattle.lists_checks.proofs.bad_pairs.Goals as goal

pub last_above-requires : goal.last_above-requires
last_above-requires c = search (rules, rising_told)
