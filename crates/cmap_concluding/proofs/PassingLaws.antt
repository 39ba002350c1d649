-- What refusals 1 to 7 leave for the rest of a call: the header is there, and so are the records of the plan.
use mathlib.Core.Path.{◌≡◌, refl}
use mathlib.Core.List.{List}
use native.Mathlib.Omega.{arith}
use lib.ListN.{length}
use Rattle.source_header.specs.Header.{record_count}
use Rattle.source_header.proofs.HeaderLaws.{Accepted, accepted_of}
use Rattle.plan_listing.specs.Job.{Job}
use Rattle.plan.specs.declared.Outcome.{Outcome}
use Rattle.plan.specs.Sizes.{Small}
use Rattle.plan.specs.Plan.{plan}
use Rattle.result.proofs.RefusalLaws.{early_passed}
use Rattle.cmap_concluding.specs.Concluding.{Passing, Planned, Concludes}
use Rattle.plan.proofs.OutcomesLaws.{length-plan}

header : (j : Job) → Passing j → Accepted j.source (record_count j.source)
header j p = accepted_of j.source (early_passed j p.passed).header

module _ (j : Job) (os : List Outcome) where
  all : os ≡ plan j → length os ≡ record_count j.source
  all e = rw e (length-plan j)

  pub planned : Passing j → os ≡ plan j → Small os → Planned j os
  planned p e q = record { passing = p; is = e; told = record { few = omega (arith, all e, (header j p).few); small = q } }

  pub planned_settled : Planned j os → Concludes j.source os
  planned_settled p = record { counted = record { is = refl; inside = (header j p.passing).fits }; told = p.told; all = all p.is }
