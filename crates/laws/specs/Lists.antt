-- Lists of numbers: rising ones, those kept by a test, two columns as one list of pairs, and a list laid over another.
use Rattle.std.specs.Prelude.{ℕ, suc, ◌<◌, List, [], ◌∷◌, ◌++◌, Bool, length, get_or, drop}
use Rattle.laws.specs.Choice.{pick}

-- each number is below the next
pub record Rising (xs : List ℕ) : Type 0 where
  pub climbs : (i : ℕ) → suc i < length xs → get_or xs i 0 < get_or xs (suc i) 0

-- the values whose keys pass p
abbrev pub keep : (ℕ → Bool) → List ℕ → List ℕ → List ℕ
keep p [] vs = []
keep p (k ∷ ks) [] = []
keep p (k ∷ ks) (v ∷ vs) = let r = keep p ks vs in pick (p k) (v ∷ r) r

-- a code point and its glyph
abbrev pub Pair : Type 0
Pair = ℕ × ℕ

-- a list of code points and a list of glyphs, side by side
abbrev pub pairs : List ℕ → List ℕ → List Pair
pairs [] gs = []
pairs (c ∷ cs) [] = []
pairs (c ∷ cs) (g ∷ gs) = (c, g) ∷ pairs cs gs

-- a list in the first places, and the rest as it was
abbrev pub laid : List ℕ → List ℕ → List ℕ
laid xs ys = xs ++ drop (length xs) ys
