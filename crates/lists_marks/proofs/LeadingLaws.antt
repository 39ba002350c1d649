-- Flags of which the first ones alone are set: found by two searches, and what is kept by them is the front.
use Prim.Native.Nat.{ℕ, zero, suc, ◌-◌, ◌<◌, ◌≤◌}
use mathlib.Core.Path.{◌≡◌, refl, sym, ap, ◌∙◌}
use mathlib.Core.List.{List, [], ◌∷◌}
use mathlib.Core.Bool.{Bool, true, false, not}
use native.Mathlib.Nat.{not-suc-le-zero}
use native.Mathlib.Omega.{arith}
use lib.ListN.{length, get_or, take}
use borrow.Author.Tests.{eq-eqb, ne_eqb, eqb-true, eqb-false}
use Rattle.laws.specs.Search.{first}
use Rattle.laws.proofs.ChoiceLaws.{by_leb, if_lt_lem, else_lt}
use Rattle.laws.proofs.FirstLaws.{first_before, first_none}
use Rattle.lists_marks.specs.Marks.{is_clear, is_set, front_of, kept}

-- ---- the two searches together

module _ (fs : List ℕ) (n m r : ℕ) (e : m ≡ first (is_clear fs) n 0) (q : r ≡ first (is_set fs) (n - m) m) where
  pub front_none : r < n → 0 ≡ front_of fs n
  unfolding front_of
  front_none h = rw (← e, ← q) (if_lt_lem r n 0 m h refl)

  pub front_all : n ≤ r → m ≡ front_of fs n
  unfolding front_of
  front_all h = rw (← e, ← q) (else_lt r n 0 m h refl)

pub ruleset fronting = (front_none, front_all)

-- ---- what is kept

-- the first m flags are set, and none behind them
kept_first : (fs vs : List ℕ) (m : ℕ) → length vs ≤ length fs
    → ((j : ℕ) → j < m → j < length vs → get_or fs j 0 ≡ 0 → ⊥) → ((j : ℕ) → m ≤ j → j < length vs → get_or fs j 0 ≡ 0) → kept fs vs ≡ take m vs
unfolding kept
kept_first [] [] zero l a b = refl
kept_first [] [] (suc m) l a b = refl
kept_first [] (v ∷ vs) m l a b = absurd (not-suc-le-zero l)
kept_first (f ∷ fs) [] zero l a b = refl
kept_first (f ∷ fs) [] (suc m) l a b = refl
kept_first (f ∷ fs) (v ∷ vs) zero l a b =
    rw (eq-eqb f 0 (b 0 (omega arith) (omega arith)))
    (kept_first fs vs zero (omega arith) (λ j u. absurd (not-suc-le-zero u)) (λ j u w. b (suc j) (omega arith) (omega arith)))
kept_first (f ∷ fs) (v ∷ vs) (suc m) l a b =
    rw (ne_eqb f 0 (a 0 (omega arith) (omega arith)))
    (ap (λ (t : List ℕ). v ∷ t) (kept_first fs vs m (omega arith) (λ j u w. a (suc j) (omega arith) (omega arith)) (λ j u w. b (suc j) (omega arith) (omega arith))))

not_set : (b : Bool) → not b ≡ false → b ≡ true
not_set true e = refl
not_set false e = sym e

-- what is kept of n values by n flags
pub kept_front : (fs vs : List ℕ) (n r : ℕ) → length vs ≡ n → n ≤ length fs → r ≡ front_of fs n → 0 < r → kept fs vs ≡ take r vs
kept_front fs vs n r c l e h =
    let m = first (is_clear fs) n 0 in
    let s = first (is_set fs) (n - m) m in
    by_leb (kept fs vs ≡ take r vs) n s
    (λ (u : n ≤ s).
    let d : r ≡ m = e ∙ sym (front_all fs n m s refl refl u) in
    rw d
    (kept_first fs vs m (omega arith)
    (λ j w z. eqb-false (get_or fs j 0) 0 (first_before (is_clear fs) n j w (omega arith)))
    (λ j w z. eqb-true (get_or fs j 0) 0 (not_set (is_clear fs j) (first_none (is_set fs) (n - m) m (omega arith) j w (omega arith))))))
    (λ (u : s < n). absurd (omega (arith, front_none fs n m s refl refl u)))
