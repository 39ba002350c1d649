-- Inner: which kept points two subtables map, asked of flags beside the kept points; no promise names it.
use Rattle.std.specs.Prelude.{ℕ, ◌≤◌, ◌<◌, List, Bool, not, eqb, length, get_or}
use Rattle.laws.specs.Lists.{Rising}
use Rattle.laws.specs.Search.{some}
use Rattle.lists_marks.specs.Marks.{is_set}
use Rattle.source_records.specs.Records.{Counted}

-- one of the first n flags is set
unfoldable pub some_set : List ℕ → ℕ → Bool
some_set flags n = some (is_set flags) n 0

-- two flags of the first n that are not the same
abbrev pub is_other : List ℕ → List ℕ → ℕ → Bool
is_other flags others i = not (eqb (get_or flags i 0) (get_or others i 0))

unfoldable pub flags_differ : List ℕ → List ℕ → ℕ → Bool
flags_differ flags others n = some (is_other flags others) n 0

-- record k is one of m, the font has n glyphs, the kept points rise, and each has a flag in both rows
pub record CoveredRoom (xs : List ℕ) (m k n : ℕ) (kept flags others : List ℕ) : Type 0 where
  pub counted : Counted xs m
  pub below : k < m
  pub glyphs : n < 65536
  pub rising : Rising kept
  pub beside : length kept ≤ length flags
  pub again : length kept ≤ length others
