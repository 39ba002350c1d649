use Rattle.source_header.specs.Header.{record_count}
use Rattle.plan_listing.specs.Lent.{lent_job}
use Rattle.plan.proofs.PlanLaws.{Planning, Kept}
use Rattle.plan_walk.proofs.plan.Given as goal

abbrev pub invariant-loop-k : goal.invariant-loop-k
invariant-loop-k l = Planning (lent_job l.job) l.k-end l.flags l.others l.tocodes l.toglyphs l.notes l.k
    × Kept l.initial.flags l.initial.others l.initial.tocodes l.initial.toglyphs l.flags l.others l.tocodes l.toglyphs
