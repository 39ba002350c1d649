use Rattle.std.proofs.Common.{rules}
use Rattle.lists_order.proofs.PointOrderLaws.{exceeds_told}
use Rattle.lists_order.proofs.exceeds.Goals as goal

pub returns : goal.returns
returns c = exceeds_told _ _ _ (search rules)
