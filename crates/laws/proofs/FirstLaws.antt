-- The first place that passes a test: what it tells, which it is, and tests that agree on it.
use Prim.Native.Nat.{ℕ, zero, suc, ◌+◌, ◌<◌, ◌≤◌}
use mathlib.Core.Path.{◌≡◌, refl, sym, ap, ◌∙◌}
use mathlib.Core.Logic.{⊎_elim}
use mathlib.Core.Bool.{Bool, true, false}
use native.Mathlib.Nat.{eq-or-lt_of_le}
use native.Mathlib.Omega.{arith}
use Rattle.laws.specs.Choice.{pick}
use Rattle.laws.specs.Search.{first}
use Rattle.laws.proofs.ChoiceLaws.{by_pick, by_leb, by_test}

pub first_ext : (p q : ℕ → Bool) (n i : ℕ) → ((k : ℕ) → i ≤ k → k < i + n → p k ≡ q k) → first p n i ≡ first q n i
unfolding first
first_ext p q zero i h = refl
first_ext p q (suc n) i h = rw (h i (omega arith) (omega arith), first_ext p q n (i + 1) (λ k a b. h k (omega arith) (omega arith)))

-- a search that starts one place on is the search of the tests moved by one
pub first-suc : (p : ℕ → Bool) (n i : ℕ) → first p n (suc i) ≡ suc (first (λ k. p (suc k)) n i)
unfolding first
first-suc p zero i = refl
first-suc p (suc n) i =
    let e : suc i + 1 ≡ suc (i + 1) = omega arith in
    rw (e, first-suc p n (i + 1))
    (by_pick (λ (r : ℕ). r ≡ suc (pick (p (suc i)) i (first (λ k. p (suc k)) n (i + 1)))) (p (suc i)) (suc i) (suc (first (λ k. p (suc k)) n (i + 1)))
    (λ t. rw t) (λ t. rw t))

module _ (p : ℕ → Bool) where
  first_yes : (n i : ℕ) → p i ≡ true → first p (suc n) i ≡ i
  unfolding first
  first_yes n i e = rw e

  first_no : (n i : ℕ) → p i ≡ false → first p (suc n) i ≡ first p n (i + 1)
  unfolding first
  first_no n i e = rw e

  -- ---- what the first place tells

  pub first_from : (n i : ℕ) → i ≤ first p n i
  unfolding first
  first_from zero i = omega arith
  first_from (suc n) i =
      by_test (i ≤ first p (suc n) i) (p i)
      (λ e. rw (first_yes n i e) (omega arith))
      (λ e. rw (first_no n i e) (omega (arith, first_from n (i + 1))))

  pub first_holds : (n i : ℕ) → first p n i < i + n → p (first p n i) ≡ true
  unfolding first
  first_holds zero i h = absurd (omega arith)
  first_holds (suc n) i h =
      by_test (p (first p (suc n) i) ≡ true) (p i)
      (λ e. rw (first_yes n i e) e)
      (λ e.
      let l = rw (first_no n i e) at h in
      rw (first_no n i e) (first_holds n (i + 1) (omega (arith, l))))

  before_from : (n i j : ℕ) → i ≤ j → j < first p n i → j < i + n → p j ≡ false
  unfolding first
  before_from zero i j a b c = absurd (omega arith)
  before_from (suc n) i j a b c =
      by_test (p j ≡ false) (p i)
      (λ e.
      let d = rw e at b in
      absurd (omega (arith, d)))
      (λ e.
      ⊎_elim
      (λ (s : i ≡ j). ap p (sym s) ∙ e)
      (λ (s : i < j). before_from n (i + 1) j (omega arith) (rw e at b) (omega arith))
      (eq-or-lt_of_le a))

  pub first_before : (n j : ℕ) → j < first p n 0 → j < n → p j ≡ false
  first_before n j h b = before_from n 0 j (omega arith) h (omega arith)

  pub first_none : (n i : ℕ) → i + n ≤ first p n i → (j : ℕ) → i ≤ j → j < i + n → p j ≡ false
  first_none n i h j a b = before_from n i j a (omega arith) b

  -- ---- which place it is

  is_from : (n i k : ℕ) → i ≤ k → k < i + n → p k ≡ true → ((j : ℕ) → i ≤ j → j < k → p j ≡ false) → first p n i ≡ k
  unfolding first
  is_from zero i k a b e miss = absurd (omega arith)
  is_from (suc n) i k a b e miss =
      by_leb (first p (suc n) i ≡ k) (i + 1) k
      (λ h. rw (miss i (omega arith) (omega arith)) (is_from n (i + 1) k h (omega arith) e (λ j u v. miss j (omega arith) v)))
      (λ h.
      let q : i ≡ k = omega arith in
      let t : p i ≡ true = rw q e in
      rw t q)

  past_from : (n i : ℕ) → ((j : ℕ) → i ≤ j → j < i + n → p j ≡ false) → first p n i ≡ i + n
  unfolding first
  past_from zero i miss = omega arith
  past_from (suc n) i miss =
      rw (miss i (omega arith) (omega arith)) (past_from n (i + 1) (λ j u v. miss j (omega arith) (omega arith)) ∙ omega arith)

  pub first_is : (n k : ℕ) → k < n → p k ≡ true → ((j : ℕ) → j < k → p j ≡ false) → first p n 0 ≡ k
  first_is n k h e miss = is_from n 0 k (omega arith) (omega arith) e (λ j u v. miss j v)

  -- where none passes, the search goes past the row
  pub first_past : (n : ℕ) → ((j : ℕ) → j < n → p j ≡ false) → first p n 0 ≡ n
  first_past n miss = past_from n 0 (λ j u v. miss j (omega arith)) ∙ omega arith
