-- The new subtable of format 14 (docs/RULES.md, "Format 14"), and what becomes of it.
use Rattle.std.specs.Prelude.{ℕ, ◌+◌, ◌*◌, List, [], ◌∷◌, ◌++◌, map, Bool, length}
use Rattle.laws.specs.Choice.{pick, either}
use Rattle.laws.specs.Pieces.{concat}
use Rattle.laws.specs.Select.{select, flat}
use Rattle.laws.specs.Lasts.{lasts, before}
use Rattle.number.specs.BigEndian.{enc}
use Rattle.format14.specs.Selectors.{Job14, selector_records, selector_of, kept_records, default_table, non_default_table, there, one, names_missing}
use Rattle.format14.specs.declared.Outcome14.{Outcome14}
use Rattle.format14.specs.declared.Outcome14.TheVariants.{Refused8, Empty, Length}

-- ---- the rows that stay

-- a selector, its new default table and its new non-default table
pub record Row : Type 0 where
  pub selector : ℕ
  pub default_uvs : List ℕ
  pub non_default_uvs : List ℕ

abbrev pub row_of : Job14 → ℕ → Row
row_of g k = record { selector = selector_of g k; default_uvs = default_table g k; non_default_uvs = non_default_table g k }

-- a record with neither table is left out
unfoldable pub used : Row → Bool
used r = either (there r.default_uvs) (there r.non_default_uvs)

abbrev pub rows_of : Job14 → ℕ → ℕ → List Row
rows_of g n k = select used (map (row_of g) (kept_records g n k))

abbrev pub rows : Job14 → List Row
rows g = rows_of g (selector_records g) 0

-- ---- the subtable of such rows

-- the tables in record order, default first, without the missing ones
unfoldable pub tables : List Row → List (List ℕ)
tables [] = []
tables (r ∷ rs) = one r.default_uvs ++ (one r.non_default_uvs ++ tables rs)

-- equal ones are written once, at the last place
abbrev pub written_tables : List Row → List (List ℕ)
written_tables rs = lasts (tables rs)

-- the header of ten bytes and the selector records of eleven stand before the tables; a missing table has offset 0
abbrev pub uvs_tables_start : List Row → ℕ
uvs_tables_start rs = 10 + 11 * length rs

unfoldable pub uvs_offset : List Row → List ℕ → ℕ
uvs_offset rs t = pick (there t) (uvs_tables_start rs + before t (written_tables rs)) 0

-- a selector record: var_selector, default_uvs_offset, non_default_uvs_offset
abbrev pub row_bytes : List Row → Row → List ℕ
row_bytes rs r = enc 3 r.selector ++ (enc 4 (uvs_offset rs r.default_uvs) ++ enc 4 (uvs_offset rs r.non_default_uvs))

-- the length covers them all
abbrev pub length_of14 : List Row → ℕ
length_of14 rs = uvs_tables_start rs + length (concat (written_tables rs))

abbrev pub header14 : List Row → List ℕ
header14 rs = enc 2 14 ++ (enc 4 (length_of14 rs) ++ enc 4 (length rs))

unfoldable pub format14 : List Row → List ℕ
format14 rs = header14 rs ++ (flat (row_bytes rs) rs ++ concat (written_tables rs))

-- ---- the outcome

-- no row left is "empty"
unfoldable pub size_of14 : List Row → Outcome14
size_of14 [] = Empty
size_of14 (r ∷ rs) = Length (length_of14 (r ∷ rs))

unfoldable pub outcome14 : Job14 → Outcome14
outcome14 g = pick (names_missing g) Refused8 (size_of14 (rows g))

-- the number of refusal, 0 for none, and the length of what is to be written
abbrev pub refusal_of14 : Outcome14 → ℕ
refusal_of14 Refused8 = 8
refusal_of14 Empty = 0
refusal_of14 (Length n) = 0

abbrev pub length_in : Outcome14 → ℕ
length_in Refused8 = 0
length_in Empty = 0
length_in (Length n) = n
