-- A default or non-default table as OpenType lays it out: a count of four bytes, then as many records of one size (docs/RULES.md, "Format 14").
use Rattle.std.specs.Prelude.{ℕ, ◌+◌, ◌*◌, List, [], ◌∷◌, ◌++◌, Bool, ltb, leb, length}
use Rattle.laws.specs.Choice.{both}
use Rattle.laws.specs.Select.{flat}
use Rattle.number.specs.BigEndian.{be, enc}

-- A table of records of `size` bytes, `off` from the start of the subtable at `at`, counts only if the offset is not 0 and it fits in the
-- subtable's length.
unfoldable pub counts : ℕ → List ℕ → ℕ → ℕ → ℕ → Bool
counts size xs at len off = both (ltb 0 off) (both (leb (off + 4) len) (leb (off + 4 + size * be 4 xs (at + off)) len))

abbrev pub counts_default : List ℕ → ℕ → ℕ → ℕ → Bool
counts_default xs at len off = counts 4 xs at len off

abbrev pub counts_non_default : List ℕ → ℕ → ℕ → ℕ → Bool
counts_non_default xs at len off = counts 5 xs at len off

-- The bytes of a new table: how many records, then each record's bytes. With no record there is no table, which the empty list stands for.
unfoldable pub uvs_table : {A : Type 0} → (A → List ℕ) → List A → List ℕ
uvs_table bytes [] = []
uvs_table bytes (x ∷ xs) = enc 4 (length (x ∷ xs)) ++ flat bytes (x ∷ xs)
