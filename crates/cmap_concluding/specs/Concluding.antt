-- Inner: what a plan is to the rest of a call, and the step from it to the answer; no promise names it.
use Rattle.std.specs.Prelude.{ℕ, ◌≡◌, List, length, ltb, eqb, Ok, Err}
use Rattle.laws.specs.Choice.{pick}
use Rattle.source_header.specs.Header.{record_count}
use Rattle.source_records.specs.Records.{Counted}
use Rattle.plan_listing.specs.Job.{Job}
use Rattle.plan.specs.declared.Outcome.{Outcome}
use Rattle.plan.specs.Plan.{plan}
use Rattle.result.specs.Result.{written_count}
use Rattle.result.specs.Layout.{result_length}
use Rattle.result.specs.Refusal.{refusal_numbered, early_refusal, late_refusal}
use Rattle.result_layout.specs.Counts.{OutcomesTold}
use Rattle.cmap_promise.specs.declared.Unwritten.TheVariants.{Refused, NoRoom}
use Rattle.cmap_promise.specs.Cmap.{Answer}

-- refusals 1 to 7 let the job pass
pub record Passing (j : Job) : Type 0 where
  pub passed : early_refusal j ≡ 0

-- and the outcomes of its records are its plan
pub record Planned (j : Job) (os : List Outcome) : Type 0 where
  pub passing : Passing j
  pub is : os ≡ plan j
  pub told : OutcomesTold os

-- the records are all there, and each has an outcome
pub record Concludes (xs : List ℕ) (os : List Outcome) : Type 0 where
  pub counted : Counted xs (record_count xs)
  pub told : OutcomesTold os
  pub all : length os ≡ record_count xs

-- the answer where refusals 1 to 7 let pass, with room for so many bytes
unfoldable pub answer_by : List ℕ → List Outcome → ℕ → Answer
answer_by xs os room =
    pick (eqb (late_refusal xs os) 0)
    (pick (ltb room (result_length os)) (Err (NoRoom (result_length os))) (Ok (record { bytes = result_length os; records = written_count os })))
    (Err (Refused (refusal_numbered (late_refusal xs os))))
