use Rattle.plan.proofs.TwinLaws.{twins}
use Rattle.plan_walk.proofs.is_dropped.Goals as goal

pub returns-then-r-k : goal.returns-then-r-k
returns-then-r-k c = search twins
