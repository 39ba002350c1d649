-- Inner: cases C1 to C10 of docs/RULES.md as one table of data; a law computes each from the definitions that the code is proved to equal, and no promise names them.
use Rattle.std.specs.Prelude.{ℕ, zero, suc, ◌+◌, ◌*◌, ◌/◌, List, [], ◌∷◌, ◌++◌, Bool, true, not, eqb, length}
use Rattle.laws.specs.Choice.{both}
use Rattle.laws.specs.Lists.{Pair, keep}
use Rattle.laws.specs.Select.{each, select, eq_list}
use Rattle.number.specs.BigEndian.{be}
use Rattle.number.specs.Row.{encs}
use Rattle.format4.specs.Format4.{format4}
use Rattle.format12.specs.Format12.{group, group_table, format12}
use Rattle.format12_mapped.specs.Mapped12.{maps12}
use Rattle.format14_uvs.specs.Tables.{uvs_table}
use Rattle.format14_uvs.specs.Default.{range_bytes, new_default}

-- what is said of a format 4 subtable; the closing segment is one of its segments
pub data Fact : Type 0 where
  -- all of it, as numbers of two bytes
  words_are : List ℕ → Fact
  length_is : ℕ → Fact
  segments_are : ℕ → Fact
  -- how many segments go by the glyph array
  array_segments_are : ℕ → Fact
  deltas_are : List ℕ → Fact
  first_offset_is : ℕ → Fact

pub data Case : Type 0 where
  -- what the format 4 subtable of these pairs is like
  format4_of : List Pair → List Fact → Case
  -- how many groups and bytes the format 12 subtable of these pairs has
  format12_of : List Pair → ℕ → ℕ → Case
  -- a default table of r ranges, this many points kept, and the ranges of the new table
  default_of : ℕ → ℕ → List Pair → Case
  -- a format 12 group's start, end and glyph in a font of n glyphs, the points asked, and those of them that are mapped
  mapped_of : ℕ → ℕ → ℕ → ℕ → List ℕ → List ℕ → Case

-- n pairs from c and g up
abbrev pub rise : ℕ → ℕ → ℕ → List Pair
rise c g zero = []
rise c g (suc n) = (c, g) ∷ rise (suc c) (suc g) n

abbrev pub cases : List Case
cases =
    -- C1
    format4_of (rise 0x41 1 1) (words_are (0x0004 ∷ 0x0020 ∷ 0x0000 ∷ 0x0004 ∷ 0x0004 ∷ 0x0001 ∷ 0x0000 ∷ 0x0041 ∷ 0xFFFF ∷ 0x0000 ∷ 0x0041 ∷ 0xFFFF ∷ 0xFFC0 ∷ 0x0001 ∷ 0x0000 ∷ 0x0000 ∷ []) ∷ [])
    -- C2
    ∷ format4_of (rise 0x41 65 1) (length_is 34 ∷ first_offset_is 4 ∷ [])
    -- C3: one array segment, and the closing one
    ∷ format4_of (rise 10 20 3 ++ rise 13 40 1) (segments_are 2 ∷ array_segments_are 1 ∷ length_is 40 ∷ [])
    -- C4
    ∷ format4_of (rise 10 20 4 ++ rise 14 40 1) (deltas_are (10 ∷ 26 ∷ 1 ∷ []) ∷ length_is 40 ∷ [])
    -- C5
    ∷ format4_of (rise 10 20 1 ++ rise 11 40 7 ++ rise 18 70 1) (length_is 50 ∷ [])
    -- C6
    ∷ format4_of (rise 10 20 1 ++ rise 11 40 8 ++ rise 19 70 1) (deltas_are (10 ∷ 29 ∷ 51 ∷ 1 ∷ []) ∷ length_is 48 ∷ [])
    -- C7
    ∷ format4_of (rise 10 20 1 ++ rise 11 40 4) (deltas_are (10 ∷ 29 ∷ 1 ∷ []) ∷ [])
    -- C8
    ∷ format12_of (rise 0x41 1 2 ++ rise 0x44 3 1) 2 40
    -- C9: one range of two points, or two single points
    ∷ default_of 9 2 ((0x41, 1) ∷ [])
    ∷ default_of 8 2 ((0x41, 0) ∷ (0x42, 0) ∷ [])
    -- C10
    ∷ mapped_of 100 102 0 10 (99 ∷ 100 ∷ 101 ∷ 102 ∷ 103 ∷ []) (101 ∷ 102 ∷ [])
    ∷ []

-- Beside the ten, what docs/RULES.md and docs/DECISIONS.md say of the edges.
abbrev pub edges : List Case
edges =
    -- the cost is 8 for a range's first run alone, not for the first after a commit
    format4_of (rise 10 20 4 ++ rise 14 40 4 ++ rise 18 70 1) (deltas_are (10 ∷ 0 ∷ 1 ∷ []) ∷ length_is 50 ∷ [])
    -- a range that ends at 0xFFFF is not followed by a closing segment
    ∷ format4_of (rise 0xFFFE 5 2) (deltas_are (7 ∷ []) ∷ length_is 24 ∷ [])
    -- no pairs make a subtable of no groups
    ∷ format12_of [] 0 16
    -- an end that is cut, one past the last glyph; glyph 0 with n = 2; a glyph at n
    ∷ mapped_of 100 200 5 10 (99 ∷ 100 ∷ 104 ∷ 105 ∷ 106 ∷ 200 ∷ []) (100 ∷ 104 ∷ 105 ∷ [])
    ∷ mapped_of 100 102 0 2 (100 ∷ 101 ∷ 102 ∷ []) (101 ∷ 102 ∷ [])
    ∷ mapped_of 100 102 10 10 (100 ∷ 101 ∷ 102 ∷ []) []
    -- the last code point; a start past it, which nothing wraps
    ∷ mapped_of 0x10FFFE 0xFFFFFFFF 1 9 (0x10FFFD ∷ 0x10FFFE ∷ 0x10FFFF ∷ []) (0x10FFFE ∷ 0x10FFFF ∷ [])
    ∷ mapped_of 0xFFFFFFFF 0xFFFFFFFF 0 9 (0 ∷ 1 ∷ 8 ∷ []) []
    ∷ []

-- ---- whether a case holds

-- s numbers of two bytes from a place
abbrev pub words_at : List ℕ → ℕ → ℕ → List ℕ
words_at xs at s = each (λ i. be 2 xs (at + 2 * i)) s 0

-- the subtable's own fields: its length, half of seg_count_x2, deltas and range offsets
abbrev pub segment_count : List ℕ → ℕ
segment_count xs = be 2 xs 6 / 2

abbrev pub deltas : List ℕ → List ℕ
deltas xs = words_at xs (16 + 4 * segment_count xs) (segment_count xs)

abbrev pub offsets : List ℕ → List ℕ
offsets xs = words_at xs (16 + 6 * segment_count xs) (segment_count xs)

abbrev pub fact_holds : List ℕ → Fact → Bool
fact_holds xs (words_are ws) = eq_list xs (encs 2 ws)
fact_holds xs (length_is n) = both (eqb (length xs) n) (eqb (be 2 xs 2) n)
fact_holds xs (segments_are n) = eqb (segment_count xs) n
fact_holds xs (array_segments_are n) = eqb (length (select (λ o. not (eqb o 0)) (offsets xs))) n
fact_holds xs (deltas_are ds) = eq_list (deltas xs) ds
fact_holds xs (first_offset_is o) = eqb (be 2 xs (16 + 6 * segment_count xs)) o

abbrev pub facts_hold : List ℕ → List Fact → Bool
facts_hold xs [] = true
facts_hold xs (f ∷ fs) = both (fact_holds xs f) (facts_hold xs fs)

-- a default table of two points and of r - 1 lone ones far above; the points that are kept are the first
abbrev pub sample_default : ℕ → List ℕ
sample_default zero = []
sample_default (suc r) = uvs_table range_bytes ((0x41, 1) ∷ each (λ i. (0x1000 + 2 * i, 0)) r 0)

abbrev pub good_case : Case → Bool
good_case (format4_of ps fs) = facts_hold (format4 0 ps) fs
good_case (format12_of ps groups bytes) =
    let xs = format12 0 ps in
    both (eqb (be 4 xs 12) groups) (both (eqb (length xs) bytes) (eqb (be 4 xs 4) bytes))
good_case (default_of r kept new) = eq_list (new_default (sample_default r) 0 (each (λ i. 0x41 + i) kept 0)) (uvs_table range_bytes new)
good_case (mapped_of start end glyph n asked mapped) = eq_list (keep (maps12 (group_table 12 0 (group start end glyph ∷ [])) 0 1 n) asked asked) mapped

abbrev pub good : List Case → Bool
good [] = true
good (c ∷ cs) = both (good_case c) (good cs)
