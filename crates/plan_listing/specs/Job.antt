-- A job: what is lent but the output (docs/RULES.md, "What is lent").
use Rattle.std.specs.Prelude.{ℕ, List, length}

pub record Job : Type 0 where
  pub source : List ℕ
  pub codes : List ℕ
  pub glyphs : List ℕ
  pub kept : List ℕ
  pub new_glyphs : List ℕ
  pub requested : List ℕ

-- the font's glyph count n is the map's length
abbrev pub glyph_count : Job → ℕ
glyph_count j = length j.new_glyphs

abbrev pub job : List ℕ → List ℕ → List ℕ → List ℕ → List ℕ → List ℕ → Job
job source codes glyphs kept new_glyphs requested =
    record { source = source; codes = codes; glyphs = glyphs; kept = kept; new_glyphs = new_glyphs; requested = requested }
