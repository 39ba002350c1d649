-- Inner: for laws alone, looking a code point up in segments and their glyph array (docs/RULES.md, "Heads"), and what is asked of the pairs they were cut from.
-- What is found is told by `none`, nothing there, and `glyph`, a glyph there, which may be 0.
use Rattle.std.specs.Prelude.{ℕ, ◌+◌, ◌-◌, ◌%◌, ◌<◌, List, [], ◌∷◌, map, eqb, leb, get_or, drop}
use Rattle.laws.specs.Choice.{pick}
use Rattle.laws.specs.Lists.{Pair, Rising}
use Rattle.laws.specs.Linked.{Each}
use Rattle.format4_cutting.specs.declared.Segment.{Segment}
use Rattle.format4_cutting.specs.Cutting.{entries_of}

-- what a segment that holds c gives: c + delta, mod 65,536, or where the delta is 0 its glyph array's entry for c; the array is given
-- from the segment's first entry on
abbrev pub value_in : List ℕ → Segment → ℕ → ℕ
value_in array x c = pick (eqb x.delta 0) (get_or array (c - x.start) 0) ((c + x.delta) % 65536)

-- the first segment whose end is at least c; none if there is none, or if its start exceeds c
unfoldable pub lookup_in : {A : Type 0} → A → (ℕ → A) → List ℕ → List Segment → ℕ → A
lookup_in none glyph array [] c = none
lookup_in none glyph array (x ∷ xs) c =
    let r = lookup_in none glyph (drop (entries_of x) array) xs c in
    pick (leb c x.end) (pick (leb x.start c) (glyph (value_in array x c)) none) r

-- at a code point that is not listed: none, but at 0xFFFF, where a segment always ends, glyph 0
abbrev pub unlisted : {A : Type 0} → A → (ℕ → A) → ℕ → A
unlisted none glyph c = pick (eqb c 65535) (glyph 0) none

-- code points and glyphs of 16 bits
abbrev pub Fits16 : Pair → Type 0
Fits16 p = (p.0 < 65536) × (p.1 < 65536)

-- pairs that a format 4 table can hold, the code points rising
pub record Listed16 (ps : List Pair) : Type 0 where
  pub rising : Rising (map (λ (p : Pair). p.0) ps)
  pub fits : Each Fits16 ps
