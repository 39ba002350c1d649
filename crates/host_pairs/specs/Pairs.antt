-- The two columns of a list of pair records (docs/RULES.md, "What is lent").
use Rattle.std.specs.Prelude.{ℕ, List, map}
use Rattle.host_pairs.specs.declared.PairRecord.{PairRecord}

abbrev pub code : PairRecord → ℕ
code p = p.code

abbrev pub glyph : PairRecord → ℕ
glyph p = p.glyph

abbrev pub codes_of : List PairRecord → List ℕ
codes_of ps = map code ps

abbrev pub glyphs_of : List PairRecord → List ℕ
glyphs_of ps = map glyph ps
