use Rattle.std.proofs.Common.{rules}
use Rattle.lists_order.specs.Order.{falls}
use Rattle.lists_order.proofs.falls.Goals as goal

pub returns : goal.returns
unfolding falls
returns g c = search rules
