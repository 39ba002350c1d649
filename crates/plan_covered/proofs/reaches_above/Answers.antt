use Rattle.plan.proofs.CoveredLaws.{reaching_above}
use Rattle.plan_covered.proofs.reaches_above.Goals as goal

pub maps_some-requires-clause-points_flagged : goal.maps_some-requires-clause-points_flagged
maps_some-requires-clause-points_flagged c = search reaching_above

pub returns-then-split-kept : goal.returns-then-split-kept
returns-then-split-kept c = search reaching_above

pub returns : goal.returns
returns c = search reaching_above
