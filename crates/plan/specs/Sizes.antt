-- Inner: how long the tables are that a plan says are made, and what is asked of an outcome's number; no promise names it.
use Rattle.std.specs.Prelude.{ℕ, ◌-◌, ◌<◌, List, length}
use Rattle.number.specs.Limits.{records_max}
use Rattle.source_records.specs.Records.{Placed}
use Rattle.plan.specs.declared.Outcome.{Outcome}
use Rattle.plan.specs.declared.Outcome.TheVariants.{LeftOut, BadMapping, Served, Made}
use Rattle.plan.specs.Outcomes.{at}

-- the length of the table that the record made; 0 where it made none
abbrev pub made_size : Outcome → ℕ
made_size (LeftOut why) = 0
made_size BadMapping = 0
made_size (Served by) = 0
made_size (Made size) = size

-- the number that an outcome holds
abbrev pub held_in : Outcome → ℕ
held_in (LeftOut why) = 0
held_in BadMapping = 0
held_in (Served by) = by
held_in (Made size) = size

-- those of all records can be added up
pub record Short (o : Outcome) : Type 0 where
  pub below : held_in o < 4294967296

pub record Small (os : List Outcome) : Type 0 where
  pub each : (k : ℕ) → Short (at os k)

-- records k and r are there
pub record BothPlaced (xs : List ℕ) (k r : ℕ) : Type 0 where
  pub this : Placed xs k
  pub other : Placed xs r
  pub inside : r < records_max
