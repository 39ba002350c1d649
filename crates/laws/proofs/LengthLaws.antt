-- How long a list is that is made from others.
use Prim.Native.Nat.{ℕ, zero, suc, ◌+◌, ◌≤◌}
use mathlib.Core.Path.{◌≡◌, refl, ap}
use mathlib.Core.List.{List, [], ◌∷◌, map}
use mathlib.Core.Bool.{Bool}
use native.Mathlib.Omega.{arith}
use lib.ListN.{length, length-map as map-length}
use Rattle.laws.specs.Lists.{pairs}
use Rattle.laws.specs.Select.{each, select}
use Rattle.laws.proofs.ChoiceLaws.{by_test}

pub length-map : {A B : Type 0} (f : A → B) (xs : List A) → length (map f xs) ≡ length xs
length-map f xs = map-length xs f

pub length_pairs : (cs gs : List ℕ) → length (pairs cs gs) ≤ length cs
length_pairs [] gs = omega arith
length_pairs (c ∷ cs) [] = omega arith
length_pairs (c ∷ cs) (g ∷ gs) = omega (arith, length_pairs cs gs)

pub length-each : {A : Type 0} (f : ℕ → A) (n i : ℕ) → length (each f n i) ≡ n
unfolding each
length-each f zero i = refl
length-each f (suc n) i = ap suc (length-each f n (i + 1))

pub length-select : {A : Type 0} (p : A → Bool) (xs : List A) → length (select p xs) ≤ length xs
unfolding select
length-select p [] = omega arith
length-select p (x ∷ xs) =
    let r = length-select p xs in
    by_test (length (select p (x ∷ xs)) ≤ length (x ∷ xs)) (p x)
    (λ e. rw e (omega arith))
    (λ e. rw e (omega arith))
