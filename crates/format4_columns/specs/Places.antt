-- Inner: what the functions that write a format 4 subtable hand to each other; no promise names it. What is written for each segment, where it goes,
-- and the room that it wants.
use Rattle.std.specs.Prelude.{ℕ, ◌+◌, ◌-◌, ◌*◌, ◌≤◌, ◌<◌, ◌≡◌, List, [], ◌∷◌, map, eqb, length, take, drop}
use Rattle.std.proofs.lemmas.List.Edits.{sets}
use Rattle.laws.specs.Choice.{pick}
use Rattle.number.specs.BigEndian.{put}
use Rattle.number.specs.Limits.{format4_length_max}
use Rattle.number.specs.Row.{encs}
use Rattle.format4_cutting.specs.declared.Segment.{Segment}
use Rattle.format4_cutting.specs.Steps.{entries, array_from}
use Rattle.format4_cutting.specs.Cutting.{entries_of, points}
use Rattle.format4.specs.Format4.{length_with, header4, end_of, start_of, delta_of, offsets_from}
use Rattle.format4.specs.Walk.{Fed}
use Rattle.format4_columns.specs.declared.RangeWriter.{RangeWriter}

-- ---- one segment

-- from the offset's own place to the segment's first entry
abbrev pub offset_at : RangeWriter → Segment → ℕ
offset_at w x = pick (eqb x.delta 0) (w.array - w.offsets) 0

-- the glyphs of a segment of delta 0, from the segment's first pair on
abbrev pub part_of : List ℕ → RangeWriter → Segment → List ℕ
part_of gs w x = take (entries_of x) (drop w.next gs)

-- the places of the next segment, and its first pair
abbrev pub next_of : RangeWriter → Segment → RangeWriter
next_of w x = record { ends = w.ends + 2; starts = w.starts + 2; deltas = w.deltas + 2; offsets = w.offsets + 2; array = w.array + 2 * entries_of x; next = w.next + points x }

abbrev pub put_three : List ℕ → RangeWriter → Segment → List ℕ
put_three o w x = put 2 (put 2 (put 2 o w.ends x.end) w.starts x.start) w.deltas x.delta

abbrev pub put_glyphs : List ℕ → List ℕ → RangeWriter → Segment → List ℕ
put_glyphs gs o w x = sets (put 2 o w.offsets (offset_at w x)) w.array (encs 2 (part_of gs w x))

abbrev pub put_one : List ℕ → List ℕ → RangeWriter → Segment → List ℕ
put_one gs o w x = put_glyphs gs (put_three o w x) w x

-- ---- several

unfoldable pub put_all : List ℕ → List ℕ → RangeWriter → List Segment → List ℕ
put_all gs o w [] = o
put_all gs o w (x ∷ xs) = put_all gs (put_one gs o w x) (next_of w x) xs

unfoldable pub moved_by : RangeWriter → List Segment → RangeWriter
moved_by w [] = w
moved_by w (x ∷ xs) = moved_by (next_of w x) xs

-- no place is near the end of the address space
pub record FarFromEnd (w : RangeWriter) : Type 0 where
  pub ends : w.ends < 9223372036854775808
  pub starts : w.starts < 9223372036854775808
  pub deltas : w.deltas < 9223372036854775808
  pub offsets : w.offsets < 9223372036854775808
  pub array : w.array < 9223372036854775808
  pub next : w.next < 9223372036854775808

-- room for n segments with g entries in l bytes; the array lies less than 65,536 bytes past the offsets, as it does in a subtable
pub record ColumnsRoom (w : RangeWriter) (n g k l : ℕ) : Type 0 where
  pub ends : w.ends + 2 * n ≤ l
  pub starts : w.starts + 2 * n ≤ l
  pub deltas : w.deltas + 2 * n ≤ l
  pub offsets : w.offsets + 2 * n ≤ w.array
  pub array : w.array + 2 * g ≤ l
  pub near : w.array + 2 * g < w.offsets + 65536
  pub next : w.next + n < 1000000
  pub most : k + n < 1000000

-- room for the segments, and glyphs enough among k
pub record SegmentsRoom (w : RangeWriter) (ss : List Segment) (k l : ℕ) : Type 0 where
  pub places : ColumnsRoom w (length ss) (entries ss) k l
  pub fed : Fed (k - w.next) ss

-- the columns, each at its place, and the glyph array; all else as it was. `before` entries of the array stand before its place
abbrev pub columns_at : List ℕ → List ℕ → RangeWriter → ℕ → List Segment → List ℕ
columns_at gs o w before ss =
    sets (sets (sets (sets (sets o w.ends (encs 2 (map end_of ss))) w.starts (encs 2 (map start_of ss))) w.deltas (encs 2 (map delta_of ss)))
    w.offsets (encs 2 (offsets_from before ss))) w.array (encs 2 (array_from (drop w.next gs) ss))

-- the columns follow each other and have room for n segments each; the array's place lies behind the offsets and `before` entries
pub record Apart (w : RangeWriter) (n before : ℕ) : Type 0 where
  pub first : w.ends + 2 * n ≤ w.starts
  pub second : w.starts + 2 * n ≤ w.deltas
  pub third : w.deltas + 2 * n ≤ w.offsets
  pub fourth : w.array ≡ w.offsets + 2 * n + 2 * before

-- ---- the subtable

-- where the columns stand of a subtable of s segments that starts at `at`
abbrev pub places_at : ℕ → ℕ → RangeWriter
places_at at s = record { ends = at + 14; starts = at + 16 + 2 * s; deltas = at + 16 + 4 * s; offsets = at + 16 + 6 * s; array = at + 16 + 8 * s; next = 0 }

-- the header, and the zero after the ends
abbrev pub headed : List ℕ → ℕ → ℕ → ℕ → ℕ → List ℕ
headed o at language s g = sets (sets o at (encs 2 (header4 language s g))) (at + 14 + 2 * s) (encs 2 (0 ∷ []))

-- the length fits its field, and the subtable the output
pub record Space (s g at l : ℕ) : Type 0 where
  pub some : 1 ≤ s
  pub short : length_with s g ≤ format4_length_max
  pub room : at + length_with s g ≤ l
