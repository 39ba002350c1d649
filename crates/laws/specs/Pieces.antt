-- A list cut into pieces: the longest in which every two neighbours join.
use Rattle.std.specs.Prelude.{List, [], ◌∷◌, ◌++◌, Bool}
use Rattle.laws.specs.Choice.{pick}

-- x before pieces: part of the first piece if it joins that piece's first element, else a piece of its own
abbrev pub onto : {A : Type 0} → (A → A → Bool) → A → List (List A) → List (List A)
onto joins x [] = (x ∷ []) ∷ []
onto joins x ([] ∷ ps) = (x ∷ []) ∷ ps
onto joins x ((y ∷ ys) ∷ ps) = pick (joins x y) ((x ∷ y ∷ ys) ∷ ps) ((x ∷ []) ∷ (y ∷ ys) ∷ ps)

unfoldable pub pieces : {A : Type 0} → (A → A → Bool) → List A → List (List A)
pieces joins [] = []
pieces joins (x ∷ xs) = onto joins x (pieces joins xs)

-- lists one after the other
unfoldable pub concat : {A : Type 0} → List (List A) → List A
concat [] = []
concat (x ∷ xs) = x ++ concat xs
