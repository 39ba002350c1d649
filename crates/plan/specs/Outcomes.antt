-- What an outcome says of its record, and which earlier table serves a record (docs/RULES.md, "Records").
use Rattle.std.specs.Prelude.{ℕ, List, Bool, true, false, get_or}
use Rattle.laws.specs.Choice.{both}
use Rattle.laws.specs.Search.{first}
use Rattle.source.specs.Kind.{format_of}
use Rattle.source_records.specs.Records.{leads_to, leads_to_format}
use Rattle.plan.specs.declared.Why.TheVariants.{NotRetained}
use Rattle.plan.specs.declared.Outcome.{Outcome}
use Rattle.plan.specs.declared.Outcome.TheVariants.{LeftOut, BadMapping, Served, Made}

-- of a list with an outcome for each record, that of record k
abbrev pub at : List Outcome → ℕ → Outcome
at os k = get_or os k (LeftOut NotRetained)

-- ---- what an outcome says

-- the record made a table
abbrev pub is_made : Outcome → Bool
is_made (LeftOut why) = false
is_made BadMapping = false
is_made (Served by) = false
is_made (Made size) = true

-- the record is written, with its own table or with one that serves it
abbrev pub is_written : Outcome → Bool
is_written (LeftOut why) = false
is_written BadMapping = false
is_written (Served by) = true
is_written (Made size) = true

-- the record whose table record k is written with: the one that serves it, or itself
abbrev pub maker_of : Outcome → ℕ → ℕ
maker_of (LeftOut why) k = k
maker_of BadMapping k = k
maker_of (Served by) k = by
maker_of (Made size) k = k

-- a variation mapping of the record, to be kept, names a missing glyph
abbrev pub is_bad : Outcome → Bool
is_bad (LeftOut why) = false
is_bad BadMapping = true
is_bad (Served by) = false
is_bad (Made size) = false

-- ---- what serves a record

-- a table that record r made, of record k's format
unfoldable pub serves : List ℕ → List Outcome → ℕ → ℕ → Bool
serves xs os k r = both (is_made (at os r)) (leads_to_format (format_of (leads_to xs k)) xs r)

-- the first earlier record whose table serves record k; k where there is none
unfoldable pub server : List ℕ → List Outcome → ℕ → ℕ
server xs os k = first (serves xs os k) k 0
