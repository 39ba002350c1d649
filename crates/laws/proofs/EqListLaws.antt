-- Equality of lists of numbers as a test: what it tells, and how it goes part by part.
use Prim.Native.Nat.{ℕ, ◌<◌}
use mathlib.Core.Path.{◌≡◌, refl}
use mathlib.Core.List.{List, [], ◌∷◌, ◌++◌}
use mathlib.Core.Bool.{Bool, true, false}
use native.Mathlib.Nat.{not-suc-le-zero}
use native.Mathlib.Omega.{arith}
use borrow.Author.Tests.{eq-eqb, eqb-true}
use lib.Dec.{eqb}
use lib.ListN.{length}
use Rattle.laws.specs.Choice.{pick}
use Rattle.laws.specs.Select.{eq_list}
use Rattle.laws.proofs.ChoiceLaws.{false-true}

pub eq_refl : (xs : List ℕ) → eq_list xs xs ≡ true
unfolding eq_list
eq_refl [] = refl
eq_refl (x ∷ xs) = rw (eq-eqb x x refl, eq_refl xs)

pub eq_true : (xs ys : List ℕ) → eq_list xs ys ≡ true → xs ≡ ys
unfolding eq_list
eq_true [] [] e = refl
eq_true [] (y ∷ ys) e = absurd (false-true e)
eq_true (x ∷ xs) [] e = absurd (false-true e)
eq_true (x ∷ xs) (y ∷ ys) e = heads (eqb x y) refl (λ h. eq_true xs ys h) e
  where
    heads : (t : Bool) → eqb x y ≡ t → (eq_list xs ys ≡ true → xs ≡ ys) → pick t (eq_list xs ys) false ≡ true → (x ∷ xs) ≡ (y ∷ ys)
    heads true h rest d = rw (eqb-true x y h, rest d)
    heads false h rest d = absurd (false-true d)

-- fronts of one length
pub eq_append : (us vs xs ys : List ℕ) → length us ≡ length vs → eq_list (us ++ xs) (vs ++ ys) ≡ pick (eq_list us vs) (eq_list xs ys) false
unfolding eq_list
eq_append [] [] xs ys h = refl
eq_append [] (b ∷ vs) xs ys h = absurd (omega arith)
eq_append (a ∷ us) [] xs ys h = absurd (omega arith)
eq_append (a ∷ us) (b ∷ vs) xs ys h = heads (eqb a b) (eq_append us vs xs ys (omega arith))
  where
    heads : (t : Bool) → eq_list (us ++ xs) (vs ++ ys) ≡ pick (eq_list us vs) (eq_list xs ys) false
        → pick t (eq_list (us ++ xs) (vs ++ ys)) false ≡ pick (pick t (eq_list us vs) false) (eq_list xs ys) false
    heads true e = e
    heads false e = refl

-- one of them empty
pub eq_none : (ys : List ℕ) → 0 < length ys → eq_list [] ys ≡ false
unfolding eq_list
eq_none [] h = absurd (not-suc-le-zero h)
eq_none (y ∷ ys) h = refl

pub none_eq : (xs : List ℕ) → 0 < length xs → eq_list xs [] ≡ false
unfolding eq_list
none_eq [] h = absurd (not-suc-le-zero h)
none_eq (x ∷ xs) h = refl
