-- Inner: for laws alone, what a lookup finds in a format 4 subtable of listed pairs (docs/RULES.md, "Heads"), and when such a subtable is written.
use Rattle.std.specs.Prelude.{ℕ, ◌≤◌, ◌<◌, List, length, Option, Some, None}
use Rattle.laws.specs.Lists.{Pair}
use Rattle.laws.specs.Listed.{listed_as}
use Rattle.format4.specs.Format4.{format4}
use Rattle.format4_lookup.specs.CutLookup.{unlisted}

-- its length and its language fit their fields
pub record FieldsFit (language : ℕ) (ps : List Pair) : Type 0 where
  pub short : length (format4 language ps) ≤ 65535
  pub language_fits : language < 65536

-- for every number the listed glyph; where none is listed nothing, but at 0xFFFF, which the last segment holds, glyph 0
abbrev pub found_in : List Pair → ℕ → Option ℕ
found_in ps c = listed_as (unlisted None Some c) Some ps c
