use Rattle.plan.proofs.CoveredLaws.{covering}
use Rattle.plan_covered.proofs.sibling_covers.Goals as goal

pub returns-then-m-i : goal.returns-then-m-i
returns-then-m-i c = search covering

pub returns-then-reaches_above : goal.returns-then-reaches_above
returns-then-reaches_above c = search covering

pub collect_record-requires-clause-points_flagged : goal.collect_record-requires-clause-points_flagged
collect_record-requires-clause-points_flagged c = search covering

pub returns : goal.returns
returns c = search covering
