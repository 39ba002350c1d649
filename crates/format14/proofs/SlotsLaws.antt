-- Tables by number: which of them are written, and how far from the end of the subtable each stands.
use Prim.Native.Nat.{ℕ, zero, suc, ◌+◌, ◌-◌, ◌<◌, ◌≤◌}
use mathlib.Core.Path.{◌≡◌, refl, sym, ap, ◌∙◌}
use mathlib.Core.List.{List, [], ◌∷◌}
use mathlib.Core.Bool.{true, false}
use native.Mathlib.Nat.{not-suc-le-zero}
use native.Mathlib.Omega.{arith}
use lib.ListN.{length}
use Rattle.laws.specs.Pieces.{concat}
use Rattle.laws.specs.Select.{eq_list}
use Rattle.laws.specs.Lasts.{among, lasts, before, behind}
use Rattle.laws.proofs.ChoiceLaws.{false-true, by_leb, by_test}
use Rattle.laws.proofs.EqListLaws.{eq_true, eq_refl}
use Rattle.laws.proofs.LastsLaws.{eq_list-length, among_here, among_skip, among_there, among_none, lasts_again, lasts_new, among-lasts, behind_here, behind_skip, behind_absent, before-behind, behind_le, length-behind}
use Rattle.format14.specs.Selectors.{there}
use Rattle.format14.specs.Ends.{from, rest, written_from}

-- ---- there

pub there_some : (t : List ℕ) → 0 < length t → there t ≡ true
there_some [] h = absurd (not-suc-le-zero h)
there_some (b ∷ t) h = refl

pub there_none : (t : List ℕ) → length t ≡ 0 → there t ≡ false
there_none [] h = refl
there_none (b ∷ t) h = absurd (omega arith)

pub nil_eq : (t : List ℕ) → length t ≡ 0 → t ≡ []
nil_eq [] h = refl
nil_eq (b ∷ t) h = absurd (omega arith)

-- ---- from

module _ (f : ℕ → List ℕ) where
  -- the next table is missing, or is the first of the rest
  pub from_missing : (n i : ℕ) → length (f i) ≡ 0 → from f (suc n) i ≡ from f n (i + 1)
  unfolding from
  from_missing n i h = rw (there_none (f i) h)

  pub from_there : (n i : ℕ) → 0 < length (f i) → from f (suc n) i ≡ f i ∷ from f n (i + 1)
  unfolding from
  from_there n i h = rw (there_some (f i) h)

  pub among-from : (n i j : ℕ) → i ≤ j → j < i + n → 0 < length (f j) → among (f j) (from f n i) ≡ true
  among-from zero i j a b h = absurd (omega arith)
  among-from (suc n) i j a b h =
      by_leb (among (f j) (from f (suc n) i) ≡ true) j i
      (λ e.
      let q : j ≡ i = omega arith in
      rw (q, from_there n i (rw q at h)) (among_here (f i) (f i) (from f n (i + 1)) (eq_refl (f i))))
      (λ l.
      let r = among-from n (i + 1) j (omega arith) (omega arith) h in
      by_leb (among (f j) (from f (suc n) i) ≡ true) 1 (length (f i))
      (λ p. rw (from_there n i p) (among_there (f j) (f i) (from f n (i + 1)) r))
      (λ p. rw (from_missing n i (omega arith)) r))

  -- what equals none of the tables is not among them
  pub from_apart : (t : List ℕ) (n i : ℕ) → ((j : ℕ) → i ≤ j → j < i + n → eq_list t (f j) ≡ false) → among t (from f n i) ≡ false
  unfolding from
  from_apart t zero i h = among_none t
  from_apart t (suc n) i h =
      let r = from_apart t n (i + 1) (λ j a b. h j (omega arith) (omega arith)) in
      by_leb (among t (from f (suc n) i) ≡ false) 1 (length (f i))
      (λ p. rw (from_there n i p) (among_skip t (f i) (from f n (i + 1)) (h i (omega arith) (omega arith)) ∙ r))
      (λ p. rw (from_missing n i (omega arith)) r)

  -- no table is missing there
  pub from_nil : (n i : ℕ) → among [] (from f n i) ≡ false
  unfolding from
  from_nil zero i = among_none []
  from_nil (suc n) i =
      by_leb (among [] (from f (suc n) i) ≡ false) 1 (length (f i))
      (λ p. rw (from_there n i p) (among_skip [] (f i) (from f n (i + 1)) (eq_list-length [] (f i) (λ e. omega (arith, e))) ∙ from_nil n (i + 1)))
      (λ p. rw (from_missing n i (omega arith)) (from_nil n (i + 1)))

-- ---- those written of the tables from number i on, m tables in all

module _ (f : ℕ → List ℕ) (m : ℕ) where
  rest_missing : (i : ℕ) → i < m → length (f i) ≡ 0 → rest f m i ≡ rest f m (i + 1)
  rest_missing i l h =
      let e : m - i ≡ suc (m - (i + 1)) = omega arith in
      rw e (from_missing f (m - (i + 1)) i h)

  rest_there : (i : ℕ) → i < m → 0 < length (f i) → rest f m i ≡ f i ∷ rest f m (i + 1)
  rest_there i l h =
      let e : m - i ≡ suc (m - (i + 1)) = omega arith in
      rw e (from_there f (m - (i + 1)) i h)

  pub written_missing : (i : ℕ) → i < m → length (f i) ≡ 0 → written_from f m i ≡ written_from f m (i + 1)
  written_missing i l h = ap lasts (rest_missing i l h)

  pub written_again : (i : ℕ) → i < m → 0 < length (f i) → among (f i) (rest f m (i + 1)) ≡ true → written_from f m i ≡ written_from f m (i + 1)
  written_again i l h e = ap lasts (rest_there i l h) ∙ lasts_again (f i) (rest f m (i + 1)) e

  pub written_new : (i : ℕ) → i < m → 0 < length (f i) → among (f i) (rest f m (i + 1)) ≡ false → written_from f m i ≡ f i ∷ written_from f m (i + 1)
  written_new i l h e = ap lasts (rest_there i l h) ∙ lasts_new (f i) (rest f m (i + 1)) e

  among-rest : (i j : ℕ) → i ≤ j → j < m → 0 < length (f j) → among (f j) (rest f m i) ≡ true
  among-rest i j a b h = among-from f (m - i) i j a (omega arith) h

  -- a table stands as far from the end whether or not earlier ones are counted
  behind_step : (i j : ℕ) → i < j → j < m → behind (f j) (written_from f m i) ≡ behind (f j) (written_from f m (i + 1))
  behind_step i j a b =
      by_leb (behind (f j) (written_from f m i) ≡ behind (f j) (written_from f m (i + 1))) 1 (length (f i))
      (λ h. by_test (behind (f j) (written_from f m i) ≡ behind (f j) (written_from f m (i + 1))) (among (f i) (rest f m (i + 1)))
      (λ e. rw (written_again i (omega arith) h e))
      (λ e. rw (written_new i (omega arith) h e) (behind_skip (f j) (f i) (written_from f m (i + 1)) (apart h e))))
      (λ h. rw (written_missing i (omega arith) (omega arith)))
    where
      apart : 0 < length (f i) → among (f i) (rest f m (i + 1)) ≡ false → eq_list (f j) (f i) ≡ false
      apart h e =
          by_test (eq_list (f j) (f i) ≡ false) (eq_list (f j) (f i))
          (λ q.
          let same = eq_true (f j) (f i) q in
          absurd (false-true (sym e ∙ rw same at (among-rest (i + 1) j (omega arith) b (rw same h)))))
          (λ q. q)

  pub behind_stable : (i j : ℕ) → i ≤ j → j < m → behind (f j) (written_from f m i) ≡ behind (f j) (written_from f m 0)
  behind_stable zero j a b = refl
  behind_stable (suc i) j a b =
      let e : suc i ≡ i + 1 = omega arith in
      rw e (sym (behind_step i j (omega arith) b)) ∙ behind_stable i j (omega arith) b

  pub behind_missing : (i : ℕ) → length (f i) ≡ 0 → behind (f i) (written_from f m 0) ≡ 0
  behind_missing i h = rw (nil_eq (f i) h) (behind_absent [] (written_from f m 0) (among-lasts [] (rest f m 0) ∙ from_nil f (m - 0) 0))

  pub behind_new : (i : ℕ) → i < m → 0 < length (f i) → among (f i) (rest f m (i + 1)) ≡ false
      → behind (f i) (written_from f m 0) ≡ length (f i) + length (concat (written_from f m (i + 1)))
  behind_new i l h e =
      sym (behind_stable i i (omega arith) l)
      ∙ rw (written_new i l h e) (behind_here (f i) (f i) (written_from f m (i + 1)) (eq_refl (f i)))

  behind_again : (i : ℕ) → i < m → 0 < length (f i) → among (f i) (rest f m (i + 1)) ≡ true
      → behind (f i) (written_from f m 0) ≤ length (concat (written_from f m (i + 1)))
  behind_again i l h e =
      let stable = behind_stable i i (omega arith) l in
      rw (← stable, written_again i l h e) (behind_le (f i) (written_from f m (i + 1)))

  -- a table is missing, or has an equal later on, or is written at its own place
  by_turn : (P : Type 0) (i : ℕ) → (length (f i) ≡ 0 → P) → (0 < length (f i) → among (f i) (rest f m (i + 1)) ≡ true → P)
      → (0 < length (f i) → among (f i) (rest f m (i + 1)) ≡ false → P) → P
  by_turn P i missing again new =
      by_leb P 1 (length (f i))
      (λ h. by_test P (among (f i) (rest f m (i + 1))) (again h) (new h))
      (λ h. missing (omega arith))

  -- it is written at its own place exactly where it stands further from the end than all later ones
  pub written_turn : (i : ℕ) → i < m → length (concat (written_from f m (i + 1))) < behind (f i) (written_from f m 0) → written_from f m i ≡ f i ∷ written_from f m (i + 1)
  written_turn i l h =
      by_turn (written_from f m i ≡ f i ∷ written_from f m (i + 1)) i
      (λ z. absurd (omega (arith, behind_missing i z)))
      (λ p e. absurd (omega (arith, behind_again i l p e)))
      (λ p e. written_new i l p e)

  pub behind_turn : (i : ℕ) → i < m → length (concat (written_from f m (i + 1))) < behind (f i) (written_from f m 0)
      → behind (f i) (written_from f m 0) ≡ length (f i) + length (concat (written_from f m (i + 1)))
  behind_turn i l h =
      by_turn (behind (f i) (written_from f m 0) ≡ length (f i) + length (concat (written_from f m (i + 1)))) i
      (λ z. absurd (omega (arith, behind_missing i z)))
      (λ p e. absurd (omega (arith, behind_again i l p e)))
      (λ p e. behind_new i l p e)

  pub written_still : (i : ℕ) → i < m → behind (f i) (written_from f m 0) ≤ length (concat (written_from f m (i + 1))) → written_from f m i ≡ written_from f m (i + 1)
  written_still i l h =
      by_turn (written_from f m i ≡ written_from f m (i + 1)) i
      (λ z. written_missing i l z)
      (λ p e. written_again i l p e)
      (λ p e. absurd (omega (arith, behind_new i l p e)))

  -- ---- the distances from the end

  -- a missing table has none, any other stands before the end
  pub behind_there : (i : ℕ) → i < m → length (f i) ≤ behind (f i) (written_from f m 0)
  behind_there i l =
      by_leb (length (f i) ≤ behind (f i) (written_from f m 0)) 1 (length (f i))
      (λ h. length-behind (f i) (written_from f m 0) (among-lasts (f i) (rest f m 0) ∙ among-rest 0 i (omega arith) l h))
      (λ h. omega arith)

  pub before_there : (i : ℕ) → i < m → 0 < length (f i)
      → before (f i) (written_from f m 0) + behind (f i) (written_from f m 0) ≡ length (concat (written_from f m 0))
  before_there i l h = before-behind (f i) (written_from f m 0) (among-lasts (f i) (rest f m 0) ∙ among-rest 0 i (omega arith) l h)
