-- Inner: what the functions of this crate ask for, which work in room of their own; no promise names it.
use Rattle.std.specs.Prelude.{ℕ, ◌≤◌, List, length}
use Rattle.source_header.specs.Header.{record_count}
use Rattle.plan_listing.specs.Job.{Job}
use Rattle.plan.specs.Prepared.{Prepared}
use Rattle.plan.specs.declared.Notes.{Notes}
use Rattle.plan.specs.Notes.{outcomes_in, Fronted, Endings}
use Rattle.cmap_concluding.specs.Concluding.{Planned}

-- so many flags and places for pairs are enough
pub record FitsRoom (flags places : ℕ) (codes kept : List ℕ) : Type 0 where
  pub points : length kept ≤ flags
  pub pairs : length codes ≤ places

-- a job is planned, and there is room to write in: what planning left of its own
pub record Writes (j : Job) (notes : Notes) (flags tocodes toglyphs : List ℕ) : Type 0 where
  pub others : List ℕ
  pub planned : Planned j (outcomes_in (record_count j.source) notes)
  pub prepared : Prepared j flags others tocodes toglyphs
  pub fronted : Fronted j notes
  pub endings : Endings j (outcomes_in (record_count j.source) notes) (record_count j.source) notes
