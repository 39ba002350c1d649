-- Inner: what the writer of a table asks for; no promise names it.
use Rattle.std.specs.Prelude.{ℕ, ◌+◌, ◌<◌, ◌≤◌, ◌≡◌}
use Rattle.number.specs.Limits.{records_max}
use Rattle.plan_listing.specs.Job.{Job}
use Rattle.plan.specs.declared.Outcome.TheVariants.{Made}
use Rattle.plan.specs.Fresh.{fresh}
use Rattle.plan.specs.declared.Notes.{Notes}
use Rattle.plan.specs.Notes.{Fronted, Ended}

-- record k makes a table of so many bytes if no earlier one serves it, and it fits into l bytes at a place
pub record TableRoom (j : Job) (k place size l : ℕ) : Type 0 where
  pub is : fresh j k ≡ Made size
  pub fits : place + size ≤ l

-- what is noted of it
pub record Known (j : Job) (k : ℕ) (notes : Notes) : Type 0 where
  pub inside : k < records_max
  pub fronted : Fronted j notes
  pub ended : Ended j k notes.ends
