-- The new default table of a selector record (docs/RULES.md, "Format 14"). The source's table stands at p.
use Rattle.std.specs.Prelude.{ℕ, zero, suc, ◌+◌, ◌*◌, ◌^◌, List, [], ◌∷◌, ◌++◌, map, Bool, ltb, eqb, length, get_or}
use Rattle.laws.specs.Choice.{pick}
use Rattle.laws.specs.Search.{first}
use Rattle.laws.specs.Select.{each, select, any_of}
use Rattle.laws.specs.Lists.{Pair}
use Rattle.lists_marks.specs.Marks.{between}
use Rattle.number.specs.BigEndian.{be, enc}
use Rattle.format14_uvs.specs.Tables.{uvs_table}

-- the range at a place: its startUnicodeValue and additionalCount
abbrev pub range : List ℕ → ℕ → Pair
range xs at = (be 3 xs at, get_or xs (at + 3) 0)

-- range i of the table
abbrev pub range_at : List ℕ → ℕ → ℕ → Pair
range_at xs p i = range xs (p + 4 + 4 * i)

abbrev pub ranges : List ℕ → ℕ → List Pair
ranges xs p = each (range_at xs p) (be 4 xs p) 0

-- a range covers its start and as many points after it as its additional count says
abbrev pub covers : ℕ → Pair → Bool
covers c a = between a.0 (a.0 + a.1) c

-- covered by any range
abbrev pub covered_by : List ℕ → ℕ → ℕ → Bool
covered_by xs p c = any_of (covers c) (ranges xs p)

-- the kept points that are covered
abbrev pub covered_points : List ℕ → ℕ → List ℕ → List ℕ
covered_points xs p kept = select (covered_by xs p) kept

-- the least b with r below 2^b: 0 for 0, 4 for 8 to 15
unfoldable pub bit_length : ℕ → ℕ
bit_length r = first (λ b. ltb r (2 ^ b)) r 0

-- how many of the points ahead follow c without a gap, `most` at the most
unfoldable pub follow : ℕ → ℕ → List ℕ → ℕ
follow zero c ps = 0
follow (suc most) c [] = 0
follow (suc most) c (p ∷ ps) = let r = suc (follow most p ps) in pick (eqb p (c + 1)) r 0

-- Ranges from the lowest point up, each as long as it gets, at most `most` points after its start. The first `done` points stand in a range already.
unfoldable pub longest : ℕ → ℕ → List ℕ → List Pair
longest most done [] = []
longest most zero (p ∷ ps) = let n = follow most p ps in (p, n) ∷ longest most n ps
longest most (suc done) (p ∷ ps) = longest most done ps

-- at most 256 points a range
abbrev pub long_ranges : List ℕ → List Pair
long_ranges ps = longest 255 0 ps

-- one record a point, additional count 0
abbrev pub single_points : List ℕ → List Pair
single_points ps = map (λ p. (p, 0)) ps

-- ranges if their number in the source exceeds the kept count times its bit length, else single points
unfoldable pub in_ranges : ℕ → List ℕ → Bool
in_ranges r kept = ltb (length kept * bit_length r) r

abbrev pub new_records : List ℕ → ℕ → List ℕ → List Pair
new_records xs p kept =
    let points = covered_points xs p kept in
    pick (in_ranges (be 4 xs p) kept) (long_ranges points) (single_points points)

abbrev pub range_bytes : Pair → List ℕ
range_bytes a = enc 3 a.0 ++ enc 1 a.1

unfoldable pub new_default : List ℕ → ℕ → List ℕ → List ℕ
new_default xs p kept = uvs_table range_bytes (new_records xs p kept)
