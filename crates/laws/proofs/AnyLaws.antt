-- Whether some element passes, asked place by place; tests that agree on every place.
use Prim.Native.Nat.{ℕ, zero, suc, ◌+◌, ◌<◌, ◌≤◌}
use mathlib.Core.Path.{◌≡◌, refl, sym, ap, ◌∙◌}
use mathlib.Core.List.{List, [], ◌∷◌}
use mathlib.Core.Bool.{Bool}
use native.Mathlib.Omega.{arith}
use lib.ListN.{length, get_or}
use Rattle.laws.specs.Choice.{either}
use Rattle.laws.specs.Search.{some}
use Rattle.laws.specs.Select.{any_of}

pub some_ext : (p q : ℕ → Bool) (n i : ℕ) → ((k : ℕ) → i ≤ k → k < i + n → p k ≡ q k) → some p n i ≡ some q n i
unfolding some
some_ext p q zero i h = refl
some_ext p q (suc n) i h = rw (h i (omega arith) (omega arith), some_ext p q n (i + 1) (λ k a b. h k (omega arith) (omega arith)))

-- the places from i on are those of the tests moved by one
some-suc : (p : ℕ → Bool) (n i : ℕ) → some p n (suc i) ≡ some (λ k. p (suc k)) n i
unfolding some
some-suc p zero i = refl
some-suc p (suc n) i =
    let e : suc i + 1 ≡ suc (i + 1) = omega arith in
    rw (e, some-suc p n (i + 1))

pub any_of-some : {A : Type 0} (p : A → Bool) (d : A) (xs : List A) → any_of p xs ≡ some (λ i. p (get_or xs i d)) (length xs) 0
unfolding some any_of
any_of-some p d [] = refl
any_of-some p d (x ∷ xs) = ap (either (p x)) (any_of-some p d xs ∙ sym (some-suc (λ i. p (get_or (x ∷ xs) i d)) (length xs) 0))
