-- Inner: what the functions of this crate hand to each other; no promise names it. What earlier records came to.
use Rattle.std.specs.Prelude.{ℕ, ◌<◌, ◌≡◌, List, true}
use Rattle.number.specs.Limits.{records_max}
use Rattle.source_records.specs.Records.{retained}
use Rattle.plan_listing.specs.Job.{Job}
use Rattle.plan.specs.Covered.{covered}
use Rattle.plan.specs.declared.Outcome.{Outcome}
use Rattle.plan.specs.Outcomes.{at}
use Rattle.plan.specs.Sizes.{Small}
use Rattle.plan.specs.Twins.{is_covered}
use Rattle.plan.specs.Plan.{outcomes}

-- os holds what became of the records before k
pub record Earlier (j : Job) (os : List Outcome) (k : ℕ) : Type 0 where
  pub inside : k < records_max
  pub row : os ≡ outcomes j k
  pub small : Small os

-- record k is retained, and os says of each retained record before it whether it is covered
pub record Tells (xs : List ℕ) (n : ℕ) (kept : List ℕ) (os : List Outcome) (k : ℕ) : Type 0 where
  pub inside : k < records_max
  pub this : retained xs k ≡ true
  pub covers : (r : ℕ) → r < k → retained xs r ≡ true → is_covered (at os r) ≡ covered xs n kept r
