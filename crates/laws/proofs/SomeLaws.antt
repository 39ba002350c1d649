-- Whether some place passes, asked one place further; that none does, and what it says of each place; and a choice whose two ways agree.
use Prim.Native.Nat.{ℕ, zero, suc, ◌+◌, ◌<◌, ◌≤◌}
use mathlib.Core.Path.{◌≡◌, refl, sym, ap, ◌∙◌}
use mathlib.Core.Logic.{⊎_elim}
use mathlib.Core.Bool.{Bool, true, false}
use native.Mathlib.Nat.{add-zero, eq-or-lt_of_le}
use native.Mathlib.Omega.{arith}
use lib.Dec.{eqb}
use Rattle.laws.specs.Choice.{pick, either, if_eq}
use Rattle.laws.specs.Search.{some}
use Rattle.laws.proofs.EitherLaws.{neither_left, neither_right}

either-pick : (a b r : Bool) → either a (pick b true r) ≡ pick b true (either a r)
either-pick true true r = refl
either-pick true false r = refl
either-pick false b r = refl

some_from : (p : ℕ → Bool) (n i : ℕ) → some p (suc n) i ≡ pick (p (i + n)) true (some p n i)
unfolding some
some_from p zero i = rw (add-zero i) (go (p i))
  where
    go : (b : Bool) → either b false ≡ pick b true false
    go true = refl
    go false = refl
some_from p (suc n) i =
    let e : i + suc n ≡ i + 1 + n = omega arith in
    rw e (rw (some_from p n (i + 1)) (either-pick (p i) (p (i + 1 + n)) (some p n (i + 1))))

-- the last of n + 1 places, or one before it
pub some_snoc : (p : ℕ → Bool) (n : ℕ) → some p (suc n) 0 ≡ pick (p n) true (some p n 0)
some_snoc p n =
    let e : 0 + n ≡ n = omega arith in
    rw e at (some_from p n 0)

pub some-false : (p : ℕ → Bool) (n i : ℕ) → some p n i ≡ false → (k : ℕ) → i ≤ k → k < i + n → p k ≡ false
unfolding some
some-false p zero i e k a b = absurd (omega arith)
some-false p (suc n) i e k a b =
    ⊎_elim
    (λ (s : i ≡ k). ap p (sym s) ∙ neither_left (p i) (some p n (i + 1)) e)
    (λ (s : i < k). some-false p n (i + 1) (neither_right (p i) (some p n (i + 1)) e) k (omega arith) (omega arith))
    (eq-or-lt_of_le a)

pub some_none : (p : ℕ → Bool) (n : ℕ) → ((k : ℕ) → k < n → p k ≡ false) → some p n 0 ≡ false
unfolding some
some_none p zero h = refl
some_none p (suc n) h = rw (some_snoc p n, h n (omega arith)) (some_none p n (λ k l. h k (omega arith)))

pub each_eq : {A : Type 0} {z : A} (a b : ℕ) (x y : A) → z ≡ x → z ≡ y → z ≡ if_eq a b x y
unfolding if_eq
each_eq {A} {z} a b x y e d = go (eqb a b)
  where
    go : (t : Bool) → z ≡ pick t x y
    go true = e
    go false = d
