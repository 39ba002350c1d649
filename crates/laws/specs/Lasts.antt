-- A row of byte strings of which equal ones count once, at the place of the last of them.
use Rattle.std.specs.Prelude.{ℕ, ◌+◌, List, [], ◌∷◌, Bool, length}
use Rattle.laws.specs.Choice.{pick}
use Rattle.laws.specs.Pieces.{concat}
use Rattle.laws.specs.Select.{any_of, eq_list}

-- whether t is one of them
unfoldable pub among : List ℕ → List (List ℕ) → Bool
among t us = any_of (eq_list t) us

-- those with no equal after them, in order
unfoldable pub lasts : List (List ℕ) → List (List ℕ)
lasts [] = []
lasts (t ∷ us) = let r = lasts us in pick (among t us) r (t ∷ r)

-- the lengths of those before t, together
unfoldable pub before : List ℕ → List (List ℕ) → ℕ
before t [] = 0
before t (u ∷ us) = let r = length u + before t us in pick (eq_list t u) 0 r

-- the lengths of t and of those after it, together
unfoldable pub behind : List ℕ → List (List ℕ) → ℕ
behind t [] = 0
behind t (u ∷ us) = let r = behind t us in pick (eq_list t u) (length u + length (concat us)) r
