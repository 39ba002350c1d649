-- Inner: what the functions of this crate hand to each other; no promise names it.
use Rattle.std.specs.Prelude.{ℕ, ◌-◌, ◌≤◌, List, Bool, eqb, length}
use Rattle.std.proofs.lemmas.List.Edits.{sets}
use Rattle.laws.specs.Choice.{pick}
use Rattle.laws.specs.Pieces.{concat}
use Rattle.format14.specs.Ends.{written_from}
use Rattle.format14.specs.declared.Outcome14.{Outcome14}
use Rattle.format14.specs.declared.Outcome14.TheVariants.{Refused8, Empty, Length}

-- refusal 8 comes first; a subtable without selector records is empty
unfoldable pub outcome_from : Bool → ℕ → ℕ → Outcome14
outcome_from refused count total = pick refused Refused8 (pick (eqb count 0) Empty (Length total))

-- bytes written so that they end at `stop`
abbrev pub ends_at : ℕ → List ℕ → List ℕ → List ℕ
ends_at stop out bytes = sets out (stop - length bytes) bytes

-- the written tables have room before `stop`
pub record Stops (f : ℕ → List ℕ) (m stop : ℕ) (out : List ℕ) : Type 0 where
  pub room : length (concat (written_from f m 0)) ≤ stop
  pub within : stop ≤ length out
