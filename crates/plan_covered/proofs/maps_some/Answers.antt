use Rattle.plan.proofs.CoveredLaws.{reaching_above}
use Rattle.plan_covered.proofs.maps_some.Goals as goal

pub returns : goal.returns
returns c = search reaching_above
