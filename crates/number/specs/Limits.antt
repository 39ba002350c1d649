-- The limits of docs/RULES.md, "What is lent", "Numbers of refusal" and "Records".
use Rattle.std.specs.Prelude.{ℕ, ◌*◌}

abbrev pub source_max : ℕ
source_max = 1048576

abbrev pub pairs_max : ℕ
pairs_max = 65535

abbrev pub kept_max : ℕ
kept_max = 131072

abbrev pub glyph_count_max : ℕ
glyph_count_max = 65535

abbrev pub requested_max : ℕ
requested_max = 65535

abbrev pub records_max : ℕ
records_max = 64

abbrev pub selectors_max : ℕ
selectors_max = 512

-- two tables for each selector
abbrev pub tables_max : ℕ
tables_max = 2 * selectors_max

abbrev pub format4_length_max : ℕ
format4_length_max = 65535

abbrev pub unicode_max : ℕ
unicode_max = 0x10FFFF

-- the greatest glyph a pair may name
abbrev pub new_glyph_max : ℕ
new_glyph_max = 65534

-- the map's entry for an old glyph that is not in the new font
abbrev pub absent : ℕ
absent = 65535
