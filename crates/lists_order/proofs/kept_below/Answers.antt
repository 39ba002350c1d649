-- Where c stands, the points before it are those below it.
use Rattle.lists_order.proofs.PointOrderLaws.{kept_here}
use Rattle.lists_order.proofs.kept_below.Goals as goal

pub returns-then-kept-near : goal.returns-then-kept-near
returns-then-kept-near c = search kept_here
