-- Inner: what the functions that write records hand to each other; no promise names it.
use Rattle.std.specs.Prelude.{ℕ, ◌<◌, ◌≡◌, List, length, true}
use Rattle.source_records.specs.Records.{Placed}
use Rattle.plan.specs.Outcomes.{at, is_written, maker_of}
use Rattle.plan.specs.declared.Outcome.{Outcome}
use Rattle.result_layout.specs.Counts.{Counts}

-- record k is there, and so is the record whose table it is written with
pub record Recorded (xs : List ℕ) (os : List Outcome) (k count : ℕ) : Type 0 where
  pub counts : Counts os count
  pub here : Placed xs k
  pub inside : k < length os
  pub maker : maker_of (at os k) k < length os

-- the same for all records that are written
pub record Laid (xs : List ℕ) (os : List Outcome) (count : ℕ) : Type 0 where
  pub counts : Counts os count
  pub here : (k : ℕ) → is_written (at os k) ≡ true → Placed xs k
  pub makers : (k : ℕ) → k < length os → maker_of (at os k) k < length os
