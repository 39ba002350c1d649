-- Inner: what is asked for to say where the tables of a result stand; no promise names it.
use Rattle.std.specs.Prelude.{ℕ, ◌≤◌, ◌≡◌, List, length}
use Rattle.number.specs.Limits.{records_max}
use Rattle.plan.specs.Sizes.{Small}
use Rattle.plan.specs.declared.Outcome.{Outcome}
use Rattle.result.specs.Result.{written_count}

-- the outcomes of all records: so few that the lengths of their tables can be added up
pub record OutcomesTold (os : List Outcome) : Type 0 where
  pub few : length os ≤ records_max
  pub small : Small os

-- and so many of them are written
pub record Counts (os : List Outcome) (count : ℕ) : Type 0 where
  pub told : OutcomesTold os
  pub is : count ≡ written_count os
  pub few : count ≤ length os
