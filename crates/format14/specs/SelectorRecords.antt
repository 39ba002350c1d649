-- Inner: selector records of a new subtable by the distances of their tables from its end; no promise names them. Table 2k is the default table of the source's record k,
-- table 2k + 1 its non-default table, and distance 0 says that there is none (docs/RULES.md, "Format 14").
use Rattle.std.specs.Prelude.{ℕ, ◌+◌, ◌-◌, ◌*◌, ◌<◌, ◌≤◌, List, ◌++◌, Bool, eqb, ltb, length, get_or}
use Rattle.laws.specs.Choice.{pick, either}
use Rattle.laws.specs.Select.{each, select}
use Rattle.source.specs.Fields.{var_selector}
use Rattle.number.specs.BigEndian.{enc}

-- record k has a table
unfoldable pub used_at : List ℕ → ℕ → Bool
used_at ends k = either (ltb 0 (get_or ends (2 * k) 0)) (ltb 0 (get_or ends (2 * k + 1) 0))

-- the records of n that have one
abbrev pub used_records : List ℕ → ℕ → List ℕ
used_records ends n = select (used_at ends) (each (λ i. i) n 0)

-- the offset of a table that stands `far` from the end of a subtable of `total` bytes
unfoldable pub offset_for : ℕ → ℕ → ℕ
offset_for total far = pick (eqb far 0) 0 (total - far)

-- var_selector, default_uvs_offset and non_default_uvs_offset
unfoldable pub selector_bytes : ℕ → ℕ → ℕ → List ℕ
selector_bytes selector first second = enc 3 selector ++ (enc 4 first ++ enc 4 second)

-- record k of the source's subtable at `at`, with its new offsets
unfoldable pub record_at : List ℕ → ℕ → ℕ → List ℕ → ℕ → List ℕ
record_at xs at total ends k = selector_bytes (var_selector xs at k) (offset_for total (get_or ends (2 * k) 0)) (offset_for total (get_or ends (2 * k + 1) 0))

-- format 14, the subtable's length and its number of selector records
unfoldable pub header14_with : ℕ → ℕ → List ℕ
header14_with total count = enc 2 14 ++ (enc 4 total ++ enc 4 count)

-- the distances of the tables of n records
pub record Distances (n total : ℕ) (ends : List ℕ) : Type 0 where
  pub room : 2 * n ≤ length ends
  pub inside : (t : ℕ) → t < 2 * n → get_or ends t 0 ≤ total
  pub fits : total < 4294967296

-- a distance that can be taken from the total
pub record Far (total far : ℕ) : Type 0 where
  pub inside : far ≤ total
  pub fits : total < 4294967296
