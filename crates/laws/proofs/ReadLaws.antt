-- Reading a list at a place: inside it what it gives past the end does not matter; past the end it gives that; joined and mapped lists.
use Prim.Native.Nat.{ℕ, zero, suc, ◌<◌, ◌≤◌}
use mathlib.Core.Path.{◌≡◌, refl}
use mathlib.Core.List.{List, [], ◌∷◌, ◌++◌, map}
use native.Mathlib.Nat.{not-suc-le-zero}
use native.Mathlib.Omega.{arith}
use lib.ListN.{length, get_or, replicate}

pub get_or_in : (xs : List ℕ) (i a b : ℕ) → i < length xs → get_or xs i a ≡ get_or xs i b
get_or_in [] i a b h = absurd (not-suc-le-zero h)
get_or_in (x ∷ xs) zero a b h = refl
get_or_in (x ∷ xs) (suc i) a b h = get_or_in xs i a b (omega arith)

-- a row of equal elements gives that element wherever it is read, if it does so past the end
pub get_or_row : {A : Type 0} (a : A) (n i : ℕ) → get_or (replicate n a) i a ≡ a
get_or_row a zero i = refl
get_or_row a (suc n) zero = refl
get_or_row a (suc n) (suc i) = get_or_row a n i

pub get_or_before : {A : Type 0} (xs ys : List A) (i : ℕ) (d : A) → i < length xs → get_or (xs ++ ys) i d ≡ get_or xs i d
get_or_before [] ys i d h = absurd (omega arith)
get_or_before (x ∷ xs) ys zero d h = refl
get_or_before (x ∷ xs) ys (suc i) d h = get_or_before xs ys i d (omega arith)

pub get_or_past : {A : Type 0} (xs : List A) (i : ℕ) (d : A) → length xs ≤ i → get_or xs i d ≡ d
get_or_past [] i d h = refl
get_or_past (x ∷ xs) zero d h = absurd (omega arith)
get_or_past (x ∷ xs) (suc i) d h = get_or_past xs i d (omega arith)

pub get_or-map : {A B : Type 0} (f : A → B) (xs : List A) (i : ℕ) (d : A) → get_or (map f xs) i (f d) ≡ f (get_or xs i d)
get_or-map f [] i d = refl
get_or-map f (x ∷ xs) zero d = refl
get_or-map f (x ∷ xs) (suc i) d = get_or-map f xs i d
