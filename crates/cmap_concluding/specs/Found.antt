-- Inner: what the functions that tell fates ask for, and the step of theirs that no other page tells; no promise names it.
use Rattle.std.specs.Prelude.{ℕ, ◌<◌, ◌≡◌, List, length, ltb, eqb}
use Rattle.laws.specs.Choice.{pick}
use Rattle.source_header.specs.Header.{record_count}
use Rattle.plan.specs.declared.Outcome.{Outcome}
use Rattle.plan.specs.declared.Outcome.TheVariants.{Served}
use Rattle.plan.specs.Outcomes.{at}
use Rattle.result.specs.Layout.{place_by_sizes}
use Rattle.result.specs.Refusal.{refusal_numbered, late_refusal}
use Rattle.result_layout.specs.Counts.{OutcomesTold}
use Rattle.cmap_promise.specs.declared.Fate.{Fate}
use Rattle.cmap_promise.specs.declared.FateKind.TheVariants.{Refused, NoSuchRecord}
use Rattle.cmap_promise.specs.Fates.{record_fate, no_fate}

-- the outcomes of all records: what serves one is one of them
pub record ServersThere (os : List Outcome) : Type 0 where
  pub told : OutcomesTold os
  pub serving : (k r : ℕ) → at os k ≡ Served r → r < length os

-- what becomes of record k where refusals 1 to 7 let pass
unfoldable pub fate_by : List ℕ → List Outcome → ℕ → Fate
fate_by xs os k =
    pick (eqb (late_refusal xs os) 0) (pick (ltb k (record_count xs)) (record_fate (place_by_sizes os) xs os k) (no_fate NoSuchRecord)) (no_fate (Refused (refusal_numbered (late_refusal xs os))))
