-- What is made of the elements of a list, one after the other.
use Prim.Native.Nat.{ℕ, zero, suc, ◌+◌, ◌<◌, ◌≤◌}
use mathlib.Core.Path.{◌≡◌, refl, ap}
use mathlib.Core.List.{List, [], ◌∷◌, ◌++◌, map}
use mathlib.Core.Bool.{Bool, true}
use native.Mathlib.Omega.{arith}
use Rattle.laws.specs.Select.{each, select, flat}
use Rattle.laws.proofs.ChoiceLaws.{by_test}

pub flat_map : {A B C : Type 0} (w : B → List C) (f : A → B) (xs : List A) → flat w (map f xs) ≡ flat (λ x. w (f x)) xs
unfolding flat
flat_map w f [] = refl
flat_map w f (x ∷ xs) = ap (λ r. w (f x) ++ r) (flat_map w f xs)

-- two that agree on the selected places make the same of them
pub flat-select : (v w : ℕ → List ℕ) (q : ℕ → Bool) (n k : ℕ) → ((i : ℕ) → k ≤ i → i < k + n → q i ≡ true → v i ≡ w i)
    → flat v (select q (each (λ i. i) n k)) ≡ flat w (select q (each (λ i. i) n k))
unfolding flat select each
flat-select v w q zero k h = refl
flat-select v w q (suc n) k h =
    let r = flat-select v w q n (k + 1) (λ i a b. h i (omega arith) (omega arith)) in
    by_test (flat v (select q (each (λ i. i) (suc n) k)) ≡ flat w (select q (each (λ i. i) (suc n) k))) (q k)
    (λ e. rw (e, h k (omega arith) (omega arith) e) (ap (λ l. w k ++ l) r))
    (λ e. rw e r)
