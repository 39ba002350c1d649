-- Inner: what a non-default table gives a code point, for laws alone: the glyphs of the mappings that name it, in the table's order.
use Rattle.std.specs.Prelude.{ℕ, ◌^◌, ◌<◌, List, map, eqb, get_or}
use Rattle.laws.specs.Choice.{either}
use Rattle.laws.specs.Lists.{Pair}
use Rattle.laws.specs.Select.{select}
use Rattle.lists_marks.specs.Marks.{holds}
use Rattle.number.specs.Limits.{absent}

abbrev pub glyphs_for : List Pair → ℕ → List ℕ
glyphs_for ms c = map (λ m. m.1) (select (λ m. eqb m.0 c) ms)

-- of glyphs that a table gives c, those that stay: all where c is kept, else those requested
abbrev pub staying_glyphs : List ℕ → List ℕ → ℕ → List ℕ → List ℕ
staying_glyphs kept requested c gs = select (λ g. either (holds kept c) (holds requested g)) gs

-- the new number of an old glyph
abbrev pub new_glyph : List ℕ → ℕ → ℕ
new_glyph glyphs g = get_or glyphs g absent

abbrev pub renumbered : List ℕ → Pair → Pair
renumbered glyphs m = (m.0, new_glyph glyphs m.1)

-- new numbers are of two bytes
abbrev pub Glyphs : List ℕ → Type 0
Glyphs glyphs = (g : ℕ) → get_or glyphs g absent < 256 ^ 2
