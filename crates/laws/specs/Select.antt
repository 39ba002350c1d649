-- Lists read off a row, the elements that pass a test, and what is made of each, one after the other.
use Rattle.std.specs.Prelude.{ℕ, zero, suc, ◌+◌, List, [], ◌∷◌, ◌++◌, Bool, true, false, eqb}
use Rattle.laws.specs.Choice.{pick, either}

-- what stands at the n places from i
unfoldable pub each : {A : Type 0} → (ℕ → A) → ℕ → ℕ → List A
each f zero i = []
each f (suc n) i = f i ∷ each f n (i + 1)

-- those that pass p, in order
unfoldable pub select : {A : Type 0} → (A → Bool) → List A → List A
select p [] = []
select p (x ∷ xs) = let r = select p xs in pick (p x) (x ∷ r) r

-- whether one passes p
unfoldable pub any_of : {A : Type 0} → (A → Bool) → List A → Bool
any_of p [] = false
any_of p (x ∷ xs) = either (p x) (any_of p xs)

-- what f makes of each, one after the other
unfoldable pub flat : {A B : Type 0} → (A → List B) → List A → List B
flat f [] = []
flat f (x ∷ xs) = f x ++ flat f xs

-- whether two lists of numbers are equal
unfoldable pub eq_list : List ℕ → List ℕ → Bool
eq_list [] [] = true
eq_list [] (y ∷ ys) = false
eq_list (x ∷ xs) [] = false
eq_list (x ∷ xs) (y ∷ ys) = pick (eqb x y) (eq_list xs ys) false
