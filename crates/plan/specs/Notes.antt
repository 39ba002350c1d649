-- Inner: what the walk notes for the one who writes the tables; no promise names it.
use Rattle.std.specs.Prelude.{ℕ, ◌+◌, ◌*◌, ◌<◌, ◌≤◌, ◌≡◌, List, true, ◌⊎◌, length, get_or, set, take}
use Rattle.number.specs.BigEndian.{be}
use Rattle.number.specs.Limits.{records_max}
use Rattle.source.specs.declared.Kind.TheVariants.{Format14}
use Rattle.source_header.specs.Header.{offset_of}
use Rattle.source.specs.Kind.{format_of}
use Rattle.source_records.specs.Records.{leads_to}
use Rattle.plan_listing.specs.Job.{Job}
use Rattle.plan.specs.Making.{Fronts}
use Rattle.format14.specs.ByNumber.{slot}
use Rattle.format14.specs.Ends.{Ends}
use Rattle.plan.specs.declared.Outcome.{Outcome}
use Rattle.plan.specs.declared.Notes.{Notes}
use Rattle.plan.specs.Outcomes.{at, is_made}
use Rattle.plan.specs.Fresh.{job14_of}

-- what became of the first m records
unfoldable pub outcomes_in : ℕ → Notes → List Outcome
outcomes_in m notes = take m notes.outcomes

-- the notes with what became of record k in its place, all else as it was
abbrev pub noted : Notes → ℕ → Outcome → Notes
noted notes k o = record { outcomes = set notes.outcomes k o; fronts = notes.fronts; ends = notes.ends }

-- ---- what they say

-- there is room for all, and for each record it is told how many pairs are listed, where they are the first of the lent columns; else 0
pub record Fronted (j : Job) (notes : Notes) : Type 0 where
  pub outcomes : records_max ≤ length notes.outcomes
  pub fronts : records_max ≤ length notes.fronts
  pub each : (k : ℕ) → Fronts j k (get_or notes.fronts k 0)

-- how far the tables of record k's new subtable stand from its end, where it leads to a format 14
pub record Ended (j : Job) (k : ℕ) (ends : List ℕ) : Type 0 where
  pub is : (n len : ℕ) → leads_to j.source k ≡ Format14 n len → Ends (slot (job14_of j k len)) (2 * be 4 j.source (offset_of j.source k + 6)) ends

-- the ends of each table that the first m records made
pub record Endings (j : Job) (os : List Outcome) (m : ℕ) (notes : Notes) : Type 0 where
  pub each : (i : ℕ) → i < m → is_made (at os i) ≡ true → Ended j i notes.ends

-- a second row of flags for the kept points, and the notes so far
pub record Notebook (j : Job) (k : ℕ) (others : List ℕ) (notes : Notes) : Type 0 where
  pub inside : k < records_max
  pub kept-others : length j.kept ≤ length others
  pub fronted : Fronted j notes

-- ---- what working out a record leaves of them

-- the outcomes before it stay, and what is told of listed pairs is true
pub record Leaves (j : Job) (before after : Notes) : Type 0 where
  pub row : after.outcomes ≡ before.outcomes
  pub fronted : Fronted j after

-- record k has come to o: its own ends are noted, and only a format 14 changes what was noted before
pub record Turned (j : Job) (k : ℕ) (o : Outcome) (before after : Notes) : Type 0 where
  pub this : is_made o ≡ true → Ended j k after.ends
  pub others : (after.ends ≡ before.ends) ⊎ (format_of (leads_to j.source k) ≡ 14)

-- record k has come to o: its ends are noted, and what was noted of tables made before stays
pub record Stays (j : Job) (os : List Outcome) (k : ℕ) (o : Outcome) (before after : Notes) : Type 0 where
  pub this : is_made o ≡ true → Ended j k after.ends
  pub others : (i : ℕ) → i < k → is_made (at os i) ≡ true → Ended j i before.ends → Ended j i after.ends
