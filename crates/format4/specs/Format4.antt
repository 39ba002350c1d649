-- The bytes of a format 4 subtable for a list of pairs (docs/RULES.md, "Format 4").
use Rattle.std.specs.Prelude.{ℕ, ◌+◌, ◌-◌, ◌*◌, ◌^◌, List, [], ◌∷◌, ◌++◌, map, eqb, ltb, length}
use Rattle.laws.specs.Choice.{pick}
use Rattle.laws.specs.Lists.{Pair}
use Rattle.laws.specs.Search.{first}
use Rattle.number.specs.Row.{encs}
use Rattle.format4_cutting.specs.declared.Segment.{Segment}
use Rattle.format4_cutting.specs.Cutting.{segments, glyph_array, entries_of}

-- the range offsets, where `before` entries of the array stand before the first of these segments: how many bytes it is from the offset
-- itself to the segment's first entry, over the offsets that follow and those entries; 0 for a segment with a delta
unfoldable pub offsets_from : ℕ → List Segment → List ℕ
offsets_from before [] = []
offsets_from before (x ∷ xs) = pick (eqb x.delta 0) (2 * length (x ∷ xs) + 2 * before) 0 ∷ offsets_from (before + entries_of x) xs

-- log2 of s rounded down: the first e such that s is below 2^(e + 1)
unfoldable pub floor_log2 : ℕ → ℕ
floor_log2 s = first (λ e. ltb s (2 ^ (e + 1))) s 0

-- the length of a subtable with s segments and g entries in its array
abbrev pub length_with : ℕ → ℕ → ℕ
length_with s g = 16 + 8 * s + 2 * g

-- format, length, language, seg_count_x2, searchRange, entrySelector, rangeShift
unfoldable pub header4 : ℕ → ℕ → ℕ → List ℕ
unfolding floor_log2
header4 language s g =
    let e = floor_log2 s in
    4 ∷ length_with s g ∷ language ∷ (2 * s) ∷ (2 * 2 ^ e) ∷ e ∷ (2 * s - 2 * 2 ^ e) ∷ []

abbrev pub end_of : Segment → ℕ
end_of x = x.end

abbrev pub start_of : Segment → ℕ
start_of x = x.start

abbrev pub delta_of : Segment → ℕ
delta_of x = x.delta

-- ends, a zero, starts, deltas, range offsets, glyph array
abbrev pub columns : List Segment → List ℕ → List ℕ
columns ss array = map end_of ss ++ (0 ∷ (map start_of ss ++ (map delta_of ss ++ (offsets_from 0 ss ++ array))))

-- all numbers of the subtable
abbrev pub numbers : ℕ → List Segment → List ℕ → List ℕ
numbers language ss array = header4 language (length ss) (length array) ++ columns ss array

-- two bytes each, for the segments that the pairs are cut into and their glyph array
unfoldable pub format4 : ℕ → List Pair → List ℕ
unfolding segments glyph_array
format4 language ps = encs 2 (numbers language (segments ps) (glyph_array ps))
