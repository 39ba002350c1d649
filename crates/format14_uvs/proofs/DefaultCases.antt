-- Small default tables, computed from the definitions.
use mathlib.Core.Path.{◌≡◌, refl}
use mathlib.Core.List.{[], ◌∷◌}
use mathlib.Core.Bool.{false}
use Rattle.laws.specs.Search.{first}
use Rattle.laws.specs.Select.{each, select, any_of, flat}
use Rattle.number.specs.BigEndian.{be, enc}
use Rattle.format14_uvs.specs.Tables.{uvs_table}
use Rattle.format14_uvs.specs.Default.{in_ranges, bit_length, covered_points, long_ranges, longest, follow, new_default}

-- no range gives single points, of which there are none
pub none_single : in_ranges 0 [] ≡ false
unfolding in_ranges bit_length first
none_single = refl

-- points inside a range are covered: one range of 0x41 and two more
pub inside_covered : covered_points (0 ∷ 0 ∷ 0 ∷ 1 ∷ 0 ∷ 0 ∷ 0x41 ∷ 2 ∷ []) 0 (0x40 ∷ 0x42 ∷ 0x43 ∷ 0x44 ∷ []) ≡ 0x42 ∷ 0x43 ∷ []
unfolding select any_of each be
inside_covered = refl

-- adjacent points share a range, a gap begins another
pub gap_cuts : long_ranges (5 ∷ 6 ∷ 7 ∷ 9 ∷ 10 ∷ []) ≡ (5, 2) ∷ (9, 1) ∷ []
unfolding longest follow
gap_cuts = refl

-- with at most two points after the start, the range ends there
pub most_cuts : longest 2 0 (5 ∷ 6 ∷ 7 ∷ 8 ∷ 9 ∷ []) ≡ (5, 2) ∷ (8, 1) ∷ []
unfolding longest follow
most_cuts = refl

-- a kept point inside a range is written also where the table is written in ranges: U+FE00 alone kept, ranges U+FDFF and one more, U+FE10, U+FE20
pub inside-written :
    new_default (0 ∷ 0 ∷ 0 ∷ 3 ∷ 0 ∷ 0xFD ∷ 0xFF ∷ 1 ∷ 0 ∷ 0xFE ∷ 0x10 ∷ 0 ∷ 0 ∷ 0xFE ∷ 0x20 ∷ 0 ∷ []) 0 (0xFE00 ∷ [])
    ≡ 0 ∷ 0 ∷ 0 ∷ 1 ∷ 0 ∷ 0xFE ∷ 0 ∷ 0 ∷ []
unfolding new_default uvs_table flat enc in_ranges bit_length first select any_of each be longest follow
inside-written = refl
