-- Inner: what holds of each element of a list, and of every two neighbours; laws are stated with it, and no promise names it.
use Rattle.std.specs.Prelude.{◌≡◌, List, [], ◌∷◌, Bool, true}

abbrev pub Each : {A : Type 0} → (A → Type 0) → List A → Type 0
Each P [] = Unit {0}
Each P (x ∷ xs) = P x × Each P xs

-- not empty
abbrev pub Filled : {A : Type 0} → List A → Type 0
Filled [] = ⊥
Filled (x ∷ xs) = Unit {0}

-- not empty, and every two neighbours join
abbrev pub Linked : {A : Type 0} → (A → A → Bool) → List A → Type 0
Linked joins [] = ⊥
Linked joins (x ∷ []) = Unit {0}
Linked joins (x ∷ y ∷ ys) = (joins x y ≡ true) × Linked joins (y ∷ ys)
