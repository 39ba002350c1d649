-- The new non-default table of a selector record (docs/RULES.md, "Format 14"), and refusal 8 for it. The source's table stands at p.
use Rattle.std.specs.Prelude.{ℕ, ◌+◌, ◌*◌, List, ◌++◌, Bool, leb, eqb, length, get_or}
use Rattle.laws.specs.Choice.{either}
use Rattle.laws.specs.Lists.{Pair}
use Rattle.laws.specs.Select.{each, select, any_of}
use Rattle.lists_marks.specs.Marks.{holds}
use Rattle.number.specs.BigEndian.{be, enc}
use Rattle.number.specs.Limits.{absent}
use Rattle.format14_uvs.specs.Tables.{uvs_table}

-- the mapping at a place: its unicodeValue and glyphID
abbrev pub mapping : List ℕ → ℕ → Pair
mapping xs at = (be 3 xs at, be 2 xs (at + 3))

-- mapping i of the table
abbrev pub mapping_at : List ℕ → ℕ → ℕ → Pair
mapping_at xs p i = mapping xs (p + 4 + 5 * i)

abbrev pub mappings : List ℕ → ℕ → List Pair
mappings xs p = each (mapping_at xs p) (be 4 xs p) 0

-- a mapping stays if its code point is kept or its old glyph is requested
unfoldable pub keeps_mapping : List ℕ → List ℕ → Pair → Bool
keeps_mapping kept requested m = either (holds kept m.0) (holds requested m.1)

abbrev pub kept_mappings : List ℕ → ℕ → List ℕ → List ℕ → List Pair
kept_mappings xs p kept requested = select (keeps_mapping kept requested) (mappings xs p)

-- the code point and the new glyph
abbrev pub mapping_bytes : List ℕ → Pair → List ℕ
mapping_bytes map m = enc 3 m.0 ++ enc 2 (get_or map m.1 absent)

unfoldable pub new_non_default : List ℕ → ℕ → List ℕ → List ℕ → List ℕ → List ℕ
new_non_default xs p kept map requested = uvs_table (mapping_bytes map) (kept_mappings xs p kept requested)

-- a glyph at or above n, or absent from the map
unfoldable pub missing : List ℕ → ℕ → Bool
missing map g = either (leb (length map) g) (eqb (get_or map g absent) absent)

-- refusal 8: a mapping to be kept names such a glyph
unfoldable pub bad_mapping : List ℕ → ℕ → List ℕ → List ℕ → List ℕ → Bool
bad_mapping xs p kept map requested = any_of (λ m. missing map m.1) (kept_mappings xs p kept requested)
