-- Equal tables: what lengths and checksums rule out.
use Prim.Native.Nat.{ℕ, ◌+◌, ◌%◌, ◌<◌, ◌≤◌}
use mathlib.Core.Path.{◌≡◌, sym, ◌∙◌}
use mathlib.Core.List.{List}
use mathlib.Core.Bool.{Bool, true, false}
use native.Mathlib.Omega.{arith}
use lib.Dec.{eqb}
use lib.ListN.{length}
use borrow.Author.Tests.{eqb-true, eqb-false}
use Rattle.laws.specs.Select.{eq_list}
use Rattle.laws.specs.Choice.{both}
use Rattle.laws.proofs.ChoiceLaws.{false-true, both_left, by_test}
use Rattle.laws.proofs.LastsLaws.{eq_list-length}
use Rattle.laws.proofs.SearchLaws.{Seeking, looking_found, looking_none}
use Rattle.format14_sharing.specs.declared.Measure.{Measure}
use Rattle.format14_uvs.proofs.ChecksumLaws.{sums_apart}
use Rattle.format14.specs.Selectors.{Job14}
use Rattle.format14.specs.ByNumber.{slot, ReadableJob, Measured, BothThere}
use Rattle.format14.specs.Ends.{later_equal}
use Rattle.format14.proofs.ByNumberLaws.{same_unlike}

both_holds : (a b : Bool) → a ≡ true → b ≡ true → both a b ≡ true
both_holds true b p q = q
both_holds false b p q = p

-- tables of which a and b were found, the first of them there; c is the code's own test of their lengths and checksums
module _ (g : Job14) (t j : ℕ) (a b : Measure) (r : ReadableJob g) (p : Measured g t a) (q : Measured g j b) (l : 0 < length (slot g t)) (c : Bool) (d : c ≡ both (eqb a.size b.size) (eqb a.sum b.sum)) where
  unequal : (a.size ≡ b.size → ⊥) → false ≡ eq_list (slot g t) (slot g j)
  unequal h = sym (eq_list-length (slot g t) (slot g j) (λ e. h (p.size.is ∙ e ∙ sym q.size.is)))

  both_there : a.size ≡ b.size → BothThere g t j
  both_there e = record { one = l; other = omega (arith, p.size.is, q.size.is) }

  -- of one sort, or not equal for being of two
  unequal_sums : a.size ≡ b.size → (a.sum ≡ b.sum → ⊥) → false ≡ eq_list (slot g t) (slot g j)
  unequal_sums e h =
      by_test (false ≡ eq_list (slot g t) (slot g j)) (eqb (t % 2) (j % 2))
      (λ s.
      let sort = eqb-true (t % 2) (j % 2) s in
      sums_apart (4 + j % 2) (slot g t) (slot g j) (λ u. h (rw sort at p.sum ∙ u ∙ sym q.sum)))
      (λ s. same_unlike g r t j (both_there e) (eqb-false (t % 2) (j % 2) s))

  pub unlike : c ≡ false → false ≡ eq_list (slot g t) (slot g j)
  unlike f =
      by_test (false ≡ eq_list (slot g t) (slot g j)) (eqb a.size b.size)
      (λ e. by_test (false ≡ eq_list (slot g t) (slot g j)) (eqb a.sum b.sum)
      (λ u. absurd (false-true (sym f ∙ d ∙ both_holds (eqb a.size b.size) (eqb a.sum b.sum) e u)))
      (λ u. unequal_sums (eqb-true a.size b.size e) (eqb-false a.sum b.sum u)))
      (λ e. unequal (eqb-false a.size b.size e))

  pub alike_there : c ≡ true → BothThere g t j
  alike_there e = both_there (eqb-true a.size b.size (both_left (eqb a.size b.size) (eqb a.sum b.sum) (sym d ∙ e)))

-- the search among m tables, which are all n
module _ (f : ℕ → List ℕ) (m n t j : ℕ) (e : m ≡ n) (l : Seeking (λ i. eq_list (f t) (f i)) m (t + 1) j) where
  pub later_found : (b : Bool) → j < m → b ≡ eq_list (f t) (f j) → b ≡ true → j ≡ later_equal f n t
  later_found b h q y = rw (← e) (looking_found l h (sym q ∙ y))

  pub later_none : m ≤ j → m ≡ later_equal f n t
  later_none h =
      let all : m ≡ j = omega (arith, l.within) in
      all ∙ rw (← e) (looking_none l h)

pub ruleset later_equals = (later_found, later_none)
