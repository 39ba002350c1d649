-- Which code points a format 4 subtable maps (docs/RULES.md, "Which code points a subtable maps").
-- The subtable stands at `at` in xs, has s segments and is `len` bytes long.
use Rattle.std.specs.Prelude.{ℕ, zero, suc, ◌+◌, ◌-◌, ◌/◌, ◌%◌, ◌<◌, ◌≡◌, List, Bool, false, eqb, ltb}
use Rattle.laws.specs.Choice.{pick, if_lt, if_eq}
use Rattle.laws.specs.Search.{first}
use Rattle.source.specs.Fields.{end_code, start_code, id_delta, id_range_offset, glyph_id_array, array_entries}
use Rattle.lists_marks.specs.Marks.{between}
use Rattle.format4_mapped.specs.declared.SourceSegment.{SourceSegment}

-- segment i, read from the four rows
abbrev pub segment4 : List ℕ → ℕ → ℕ → ℕ → SourceSegment
segment4 xs at s i =
    record { start = start_code xs at s i; end = end_code xs at i; delta = id_delta xs at s i; offset = id_range_offset xs at s i }

-- the walk stops before a start of 0xFFFF
abbrev pub stops4 : List ℕ → ℕ → ℕ → ℕ → Bool
stops4 xs at s i = eqb (start_code xs at s i) 0xFFFF

abbrev pub holds4 : SourceSegment → ℕ → Bool
holds4 g = between g.start g.end

-- the glyph array's entry for a code point `away` past its segment's start, whose own index is place - s;
-- 0 where the start's index is negative, or this one is past the array
unfoldable pub entry4 : List ℕ → ℕ → ℕ → ℕ → ℕ → ℕ → ℕ
entry4 xs at s len place away =
    let index = place + away - s in
    if_lt place s 0 (if_lt index (array_entries s len) (glyph_id_array xs at s index) 0)

-- whether segment i maps a c that it holds: with offset 0 if the sum of c and delta is not 0; otherwise the index is
-- offset/2 + (c - start) + i - s, and c is mapped if the entry is not 0. Delta is not added to it here.
unfoldable pub says4 : List ℕ → ℕ → ℕ → ℕ → ℕ → SourceSegment → ℕ → Bool
says4 xs at s len i g c =
    if_eq g.offset 0 (ltb 0 ((c + g.delta) % 65536)) (ltb 0 (entry4 xs at s len (g.offset / 2 + i) (c - g.start)))

-- the last of the first n places that is a hit decides; where none is, the answer is no
unfoldable pub last_says : (ℕ → Bool) → (ℕ → Bool) → ℕ → Bool
last_says hit says zero = false
last_says hit says (suc n) = let r = last_says hit says n in pick (hit n) (says n) r

-- what the first n segments say of c
abbrev pub among4 : List ℕ → ℕ → ℕ → ℕ → ℕ → ℕ → Bool
among4 xs at s len n c =
    last_says (λ i. holds4 (segment4 xs at s i) c) (λ i. says4 xs at s len i (segment4 xs at s i) c) n

-- the last walked segment that holds c decides
unfoldable pub maps4 : List ℕ → ℕ → ℕ → ℕ → ℕ → Bool
maps4 xs at s len c = among4 xs at s len (first (stops4 xs at s) s 0) c

-- what is read of segment i, with the bounds of its numbers
pub record Read4 (xs : List ℕ) (at s i : ℕ) (g : SourceSegment) : Type 0 where
  pub is : g ≡ segment4 xs at s i
  pub start_below : g.start < 65536
  pub end_below : g.end < 65536
  pub delta_below : g.delta < 65536
  pub offset_below : g.offset < 65536
