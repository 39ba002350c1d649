-- How many records are written, which of them is the i-th, and how long the tables of several records are together.
use Prim.Native.Nat.{ℕ, zero, suc, ◌+◌, ◌<◌, ◌≤◌}
use mathlib.Core.Path.{◌≡◌, refl, ap, ◌∙◌, sym}
use mathlib.Core.List.{List, [], ◌++◌, append-nil, append_assoc}
use mathlib.Core.Bool.{true, false}
use native.Mathlib.Nat.{zero-add, add-zero}
use native.Mathlib.Omega.{arith}
use Rattle.laws.proofs.ChoiceLaws.{by_pick, by_test}
use Rattle.plan.specs.declared.Outcome.{Outcome}
use Rattle.plan.specs.Sizes.{made_size}
use Rattle.result.specs.Result.{count_from, tables_from}
use Rattle.result.specs.Layout.{sizes_from}
use Rattle.plan.specs.Outcomes.{is_written, at, is_made}
use Rattle.plan_listing.specs.Job.{Job}
use Rattle.laws.specs.Choice.{pick}
use Rattle.plan.specs.Fresh.{table_of}

-- the place of the i-th written record among the n records from k on
pub record Ith (os : List Outcome) (n k i : ℕ) : Type 0 where
  pub place : ℕ
  pub below : place < n
  pub written : is_written (at os (k + place)) ≡ true
  pub before : count_from os place k ≡ i

module _ (os : List Outcome) where
  -- ---- counts

  pub count_few : (n k : ℕ) → count_from os n k ≤ n
  unfolding count_from
  count_few zero k = omega arith
  count_few (suc n) k =
      let r = count_few n (k + 1) in
      by_pick (λ (c : ℕ). c ≤ suc n) (is_written (at os k)) (suc (count_from os n (k + 1))) (count_from os n (k + 1)) (λ e. omega arith) (λ e. omega arith)

  count_yes : (n k : ℕ) → is_written (at os k) ≡ true → count_from os (suc n) k ≡ suc (count_from os n (k + 1))
  unfolding count_from
  count_yes n k e = rw e

  count_no : (n k : ℕ) → is_written (at os k) ≡ false → count_from os (suc n) k ≡ count_from os n (k + 1)
  unfolding count_from
  count_no n k e = rw e

  -- a written record is one of those that are counted
  pub count_one : (n k m : ℕ) → m < n → is_written (at os (k + m)) ≡ true → count_from os m k < count_from os n k
  unfolding count_from
  count_one zero k m h w = absurd (omega arith)
  count_one (suc n) k zero h w =
      let e : is_written (at os k) ≡ true = rw (add-zero k) at w in
      rw e (omega arith)
  count_one (suc n) k (suc m) h w =
      let p : k + suc m ≡ k + 1 + m = omega arith in
      let r = count_one n (k + 1) m (omega arith) (rw p at w) in
      by_test (count_from os (suc m) k < count_from os (suc n) k) (is_written (at os k))
      (λ e. rw e (omega arith))
      (λ e. rw e r)

  -- the records behind record k, one place further
  ith_on : (n k i c : ℕ) (r : Ith os n (k + 1) i) → count_from os (suc r.place) k ≡ c → Ith os (suc n) k c
  ith_on n k i c r e =
      let p : k + suc r.place ≡ k + 1 + r.place = omega arith in
      record { place = suc r.place; below = omega (arith, r.below); written = rw p r.written; before = e }

  ith_yes : (n k i : ℕ) → ((i' : ℕ) → i' < count_from os n (k + 1) → Ith os n (k + 1) i') → i < count_from os (suc n) k → is_written (at os k) ≡ true → Ith os (suc n) k i
  unfolding count_from
  ith_yes n k zero f h e = record { place = 0; below = omega arith; written = rw (add-zero k) e; before = refl }
  ith_yes n k (suc i) f h e =
      let b = rw e at h in
      let r = f i (omega (arith, b)) in
      ith_on n k i (suc i) r (count_yes r.place k e ∙ ap suc r.before)

  ith_no : (n k i : ℕ) → ((i' : ℕ) → i' < count_from os n (k + 1) → Ith os n (k + 1) i') → i < count_from os (suc n) k → is_written (at os k) ≡ false → Ith os (suc n) k i
  ith_no n k i f h e =
      let r = f i (rw (count_no n k e) at h) in
      ith_on n k i i r (count_no r.place k e ∙ r.before)

  pub count_find : (n k i : ℕ) → i < count_from os n k → Ith os n k i
  unfolding count_from
  count_find zero k i h = absurd (omega arith)
  count_find (suc n) k i h =
      by_test (Ith os (suc n) k i) (is_written (at os k)) (ith_yes n k i (λ i' b. count_find n (k + 1) i' b) h) (ith_no n k i (λ i' b. count_find n (k + 1) i' b) h)

  -- ---- sizes

  pub sizes_split : (m n k : ℕ) → sizes_from os (m + n) k ≡ sizes_from os m k + sizes_from os n (k + m)
  unfolding sizes_from
  sizes_split zero n k = rw (zero-add n, add-zero k) (omega arith)
  sizes_split (suc m) n k =
      let p : suc m + n ≡ suc (m + n) = omega arith in
      let q : k + suc m ≡ k + 1 + m = omega arith in
      let r = sizes_split m n (k + 1) in
      rw (p, q) (omega (arith, r))

  pub sizes_snoc : (n k : ℕ) → sizes_from os (suc n) k ≡ sizes_from os n k + made_size (at os (k + n))
  unfolding sizes_from
  sizes_snoc n k =
      let p : suc n ≡ n + 1 = omega arith in
      let r = sizes_split n 1 k in
      ap (λ (m : ℕ). sizes_from os m k) p ∙ r ∙ omega arith

-- ---- tables

-- one record more: its table stands before the others
pub tables_snoc : (j : Job) (os : List Outcome) (n k : ℕ) → tables_from j os (suc n) k ≡ pick (is_made (at os (k + n))) (table_of j (k + n)) [] ++ tables_from j os n k
unfolding tables_from
tables_snoc j os zero k = rw (add-zero k) (sym (append-nil (pick (is_made (at os k)) (table_of j k) [])))
tables_snoc j os (suc n) k =
    let e : k + suc n ≡ k + 1 + n = omega arith in
    rw e
    (ap (λ (z : List ℕ). z ++ pick (is_made (at os k)) (table_of j k) []) (tables_snoc j os n (k + 1))
    ∙ append_assoc (pick (is_made (at os (k + 1 + n))) (table_of j (k + 1 + n)) []) (tables_from j os n (k + 1)) (pick (is_made (at os k)) (table_of j k) []))
