-- Inner: what is asked for to write the result of a plan; no promise names it.
use Rattle.std.specs.Prelude.{ℕ, ◌≡◌, List}
use Rattle.source_header.specs.Header.{record_count}
use Rattle.plan_listing.specs.Job.{Job}
use Rattle.plan.specs.Plan.{plan}
use Rattle.plan.specs.Prepared.{Prepared}
use Rattle.plan.specs.declared.Notes.{Notes}
use Rattle.plan.specs.Notes.{outcomes_in, Fronted, Endings}
use Rattle.result_layout.specs.Counts.{Counts}

-- what is noted is the plan of a job that may be worked on, and so many of its records are written
-- (what is asked of the work room is what planning asks; writing makes no use of the row `others`)
pub record WritesPlan (j : Job) (notes : Notes) (count : ℕ) (flags tocodes toglyphs : List ℕ) : Type 0 where
  pub others : List ℕ
  pub prepared : Prepared j flags others tocodes toglyphs
  pub is : outcomes_in (record_count j.source) notes ≡ plan j
  pub counts : Counts (outcomes_in (record_count j.source) notes) count
  pub fronted : Fronted j notes
  pub endings : Endings j (outcomes_in (record_count j.source) notes) (record_count j.source) notes
