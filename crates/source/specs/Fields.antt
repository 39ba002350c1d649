-- Where the parts of a subtable stand that follow its header, by OpenType's names: s segments, groups, or selector records, of a subtable at `at`.
use Rattle.std.specs.Prelude.{ℕ, ◌+◌, ◌*◌, ◌-◌, ◌/◌, List}
use Rattle.number.specs.BigEndian.{be}

-- ---- format 4: ends, two unused bytes, starts, deltas, range offsets, glyph array

abbrev pub end_code : List ℕ → ℕ → ℕ → ℕ
end_code xs at i = be 2 xs (at + 14 + 2 * i)

abbrev pub start_code : List ℕ → ℕ → ℕ → ℕ → ℕ
start_code xs at s i = be 2 xs (at + 16 + 2 * s + 2 * i)

abbrev pub id_delta : List ℕ → ℕ → ℕ → ℕ → ℕ
id_delta xs at s i = be 2 xs (at + 16 + 4 * s + 2 * i)

abbrev pub id_range_offset : List ℕ → ℕ → ℕ → ℕ → ℕ
id_range_offset xs at s i = be 2 xs (at + 16 + 6 * s + 2 * i)

abbrev pub glyph_id_array : List ℕ → ℕ → ℕ → ℕ → ℕ
glyph_id_array xs at s k = be 2 xs (at + 16 + 8 * s + 2 * k)

-- the array is the whole entries up to the length
abbrev pub array_entries : ℕ → ℕ → ℕ
array_entries s len = (len - (16 + 8 * s)) / 2

-- ---- format 12: groups of start, end, glyph

abbrev pub start_char_code : List ℕ → ℕ → ℕ → ℕ
start_char_code xs at i = be 4 xs (at + 16 + 12 * i)

abbrev pub end_char_code : List ℕ → ℕ → ℕ → ℕ
end_char_code xs at i = be 4 xs (at + 20 + 12 * i)

abbrev pub start_glyph_id : List ℕ → ℕ → ℕ → ℕ
start_glyph_id xs at i = be 4 xs (at + 24 + 12 * i)

-- ---- format 14: selector records of a selector and the offsets of its two tables

abbrev pub var_selector : List ℕ → ℕ → ℕ → ℕ
var_selector xs at k = be 3 xs (at + 10 + 11 * k)

abbrev pub default_uvs_offset : List ℕ → ℕ → ℕ → ℕ
default_uvs_offset xs at k = be 4 xs (at + 10 + 11 * k + 3)

abbrev pub non_default_uvs_offset : List ℕ → ℕ → ℕ → ℕ
non_default_uvs_offset xs at k = be 4 xs (at + 10 + 11 * k + 7)
