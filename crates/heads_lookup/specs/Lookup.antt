-- What glyph a subtable gives for a code point (docs/RULES.md, "Heads"); none where nothing is there, which is kept apart from glyph 0.
use Rattle.std.specs.Prelude.{ℕ, ◌+◌, ◌-◌, ◌/◌, ◌%◌, List, Bool, Option, Some, None, unwrap_or, leb}
use Rattle.laws.specs.Choice.{if_lt, if_eq}
use Rattle.laws.specs.Search.{first}
use Rattle.source.specs.declared.Kind.{Kind}
use Rattle.source.specs.declared.Kind.TheVariants.{Format4, Format12, Format14, Unreadable}
use Rattle.source.specs.Kind.{kind_at}
use Rattle.source.specs.Fields.{end_code, start_code, id_delta, id_range_offset, glyph_id_array, array_entries, start_char_code, end_char_code, start_glyph_id}

-- an end that is at least c
abbrev pub reaches : (ℕ → ℕ) → ℕ → ℕ → Bool
reaches ends c i = leb c (ends i)

-- ---- format 4: s segments, len bytes

-- the array's entry at index place − s: nothing outside the array; an entry that is not 0 gets the delta, mod 65,536
unfoldable pub in_array : List ℕ → ℕ → ℕ → ℕ → ℕ → ℕ → Option ℕ
in_array xs at s len place delta =
    let entry = glyph_id_array xs at s (place - s) in
    if_lt place s None
    (if_lt (place - s) (array_entries s len) (if_eq entry 0 (Some 0) (Some ((entry + delta) % 65536))) None)

-- segment i: nothing where its start exceeds c; range offset 0 gives c + delta, mod 65,536, another the array's entry at index
-- offset/2 + (c − start) + i − s
unfoldable pub in_segment : List ℕ → ℕ → ℕ → ℕ → ℕ → ℕ → Option ℕ
in_segment xs at s len i c =
    let start = start_code xs at s i in
    let delta = id_delta xs at s i in
    let offset = id_range_offset xs at s i in
    if_lt c start None (if_eq offset 0 (Some ((c + delta) % 65536)) (in_array xs at s len (offset / 2 + (c - start) + i) delta))

-- the first segment with end at least c; nothing if there is none, or if c exceeds 0xFFFF
unfoldable pub find4 : List ℕ → ℕ → ℕ → ℕ → ℕ → Option ℕ
find4 xs at s len c =
    let i = first (reaches (end_code xs at) c) s 0 in
    if_lt 0xFFFF c None (if_lt i s (in_segment xs at s len i c) None)

-- ---- format 12: n groups

-- group i: nothing where its start exceeds c or the glyph exceeds 65,535
unfoldable pub in_group : List ℕ → ℕ → ℕ → ℕ → Option ℕ
in_group xs at i c =
    let start = start_char_code xs at i in
    let glyph = start_glyph_id xs at i + (c - start) in
    if_lt c start None (if_lt 65535 glyph None (Some glyph))

-- the first group with end at least c; nothing if there is none
unfoldable pub find12 : List ℕ → ℕ → ℕ → ℕ → Option ℕ
find12 xs at n c =
    let i = first (reaches (end_char_code xs at) c) n 0 in
    if_lt i n (in_group xs at i c) None

-- ---- at an offset of a source; nothing where no readable subtable of that format stands

abbrev pub lookup4_in : Kind → List ℕ → ℕ → ℕ → Option ℕ
lookup4_in (Format4 language s len) xs at c = find4 xs at s len c
lookup4_in (Format12 language n len) xs at c = None
lookup4_in (Format14 n len) xs at c = None
lookup4_in Unreadable xs at c = None

unfoldable pub lookup4 : List ℕ → ℕ → ℕ → Option ℕ
lookup4 xs at c = lookup4_in (kind_at xs at) xs at c

abbrev pub lookup12_in : Kind → List ℕ → ℕ → ℕ → Option ℕ
lookup12_in (Format4 language s len) xs at c = None
lookup12_in (Format12 language n len) xs at c = find12 xs at n c
lookup12_in (Format14 n len) xs at c = None
lookup12_in Unreadable xs at c = None

unfoldable pub lookup12 : List ℕ → ℕ → ℕ → Option ℕ
lookup12 xs at c = lookup12_in (kind_at xs at) xs at c

-- the glyph that a head prints: 0 where nothing is there
abbrev pub glyph_of : Option ℕ → ℕ
glyph_of found = unwrap_or found 0
