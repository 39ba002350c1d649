-- What a list of pairs gives for a code point, told by `none`, nothing listed, and `glyph`, a listed glyph, which may be 0.
use Rattle.std.specs.Prelude.{ℕ, List, [], ◌∷◌, eqb}
use Rattle.laws.specs.Choice.{pick}
use Rattle.laws.specs.Lists.{Pair}

-- the glyph of the pair whose code point is c
unfoldable pub listed_as : {A : Type 0} → A → (ℕ → A) → List Pair → ℕ → A
listed_as none glyph [] c = none
listed_as none glyph (p ∷ ps) c = let r = listed_as none glyph ps c in pick (eqb p.0 c) (glyph p.1) r

-- as a number: 0 where none is listed
abbrev pub listed_glyph : List Pair → ℕ → ℕ
listed_glyph ps c = listed_as 0 (λ (g : ℕ). g) ps c
