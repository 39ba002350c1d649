-- Flags in blocks: setting again what is set changes nothing, what is set stays so, and what is known to be full.
use Prim.Native.Nat.{ℕ, zero, suc, ◌+◌, ◌-◌, ◌*◌, ◌/◌, ◌<◌, ◌≤◌, max}
use mathlib.Core.Path.{◌≡◌, refl, sym, ap, ◌∙◌}
use mathlib.Core.List.{List, [], ◌∷◌}
use mathlib.Core.Logic.{◌⊎◌, inl, inr, ⊎_elim}
use native.Mathlib.Nat.{not-suc-le-zero}
use native.Mathlib.Omega.{arith}
use lib.Dec.{eqb}
use lib.ListN.{length, get_or, set, replicate, length-replicate, get_or-replicate}
use lib.Seq.{sets, set-get_or, get_or-set_same, get_or-set_other}
use borrow.Author.Tests.{eqb-true, eqb-false}
use Rattle.laws.proofs.ChoiceLaws.{by_test, by_leb}
use Rattle.laws.proofs.SetsLaws.{get_or-sets_in}
use Rattle.laws.proofs.ReadLaws.{get_or_row}
use Rattle.lists_marks.proofs.MarksLaws.{Filling, filling_part}
use Rattle.format12_collect.specs.Blocks.{Ones, Full, Part}

-- ---- flags that are set

set_again : (fs : List ℕ) (i : ℕ) → get_or fs i 0 ≡ 1 → set fs i 1 ≡ fs
set_again fs i e = ap (set fs i) (sym e) ∙ set-get_or fs i 0

fill_again : (k i : ℕ) (fs : List ℕ) → ((j : ℕ) → i ≤ j → j < i + k → get_or fs j 0 ≡ 1) → sets fs i (replicate k 1) ≡ fs
fill_again zero i fs h = refl
fill_again (suc k) i fs h =
    ap (λ (l : List ℕ). sets l (suc i) (replicate k 1)) (set_again fs i (h i (omega arith) (omega arith)))
    ∙ fill_again k (suc i) fs (λ j a b. h j (omega arith) (omega arith))

stays_one : (fs : List ℕ) (i j : ℕ) → get_or fs j 0 ≡ 1 → get_or (set fs i 1) j 0 ≡ 1
stays_one fs i j e =
    by_test (get_or (set fs i 1) j 0 ≡ 1) (eqb j i)
    (λ t. rw (set_again fs i (rw (eqb-true j i t) at e)) e)
    (λ t. get_or-set_other fs i j 1 0 (eqb-false j i t) ∙ e)

fill_keeps : (k i : ℕ) (fs : List ℕ) (j : ℕ) → get_or fs j 0 ≡ 1 → get_or (sets fs i (replicate k 1)) j 0 ≡ 1
fill_keeps zero i fs j e = e
fill_keeps (suc k) i fs j e = fill_keeps k (suc i) (set fs i 1) j (stays_one fs i j e)

fill_in : (k i : ℕ) (fs : List ℕ) (j : ℕ) → i ≤ j → j < i + k → i + k ≤ length fs → get_or (sets fs i (replicate k 1)) j 0 ≡ 1
fill_in k i fs j a b h =
    let n = length-replicate {A = ℕ} k 1 in
    let s : i + (j - i) ≡ j = omega arith in
    rw s at (get_or-sets_in fs i (replicate k 1) (j - i) (rw n (omega arith)) (rw n h)) ∙ get_or-replicate k (j - i) 1 0 (omega arith)

-- ---- a part of a stretch

module _ (fs : List ℕ) (i high done : ℕ) where
  passed : (j : ℕ) → Ones fs i done → i < j → j ≤ done → j ≤ high → Part fs fs i j high
  passed j o h d u = record { is = sym (fill_again (j - i) i fs (λ k a b. o.each k a (omega arith))); past = h; upto = u }

  pub part_all : Ones fs i done → i < high → high ≤ done → Part fs fs i high high
  part_all o h d = passed high o h d (omega arith)

  pub part_known : Ones fs i done → i < done → done < high → Part fs fs i done high
  part_known o h d = passed done o h (omega arith) (omega arith)

  pub part_set : (fs' : List ℕ) (j : ℕ) → (i < j) × (j ≤ 256 * (i / 256) + 256) × (j ≤ high) → fs' ≡ sets fs i (replicate (j - i) 1) → Part fs fs' i j high
  part_set fs' j h e = record { is = e; past = h.0; upto = h.2 }

pub ruleset parts = (part_all, part_known, part_set)

pub filling_block : {fs₀ fs : List ℕ} {low high i : ℕ} (l : Filling 1 fs₀ fs low high i) (fs' : List ℕ) (j : ℕ) → Part fs fs' i j high → Filling 1 fs₀ fs' low high j
filling_block l fs' j p = filling_part l fs' j (omega (arith, p.past)) p.upto p.is

-- ---- what is full

pub full_none : (k : ℕ) (fs : List ℕ) → Full (replicate k 0) fs
full_none k fs = record { ones = λ b. record { each = λ i a h. absurd (omega (arith, get_or_row {A = ℕ} 0 k b)) } }

module _ (full fs : List ℕ) (f : Full full fs) where
  pub full_here : (i : ℕ) → Ones fs i (get_or full (i / 256) 0 * 256)
  full_here i = record { each = λ k a h. (f.ones (i / 256)).each k (omega arith) h }

  pub full_set : (fs' : List ℕ) (i j : ℕ) → fs' ≡ sets fs i (replicate (j - i) 1) → Full full fs'
  full_set fs' i j e = record { ones = λ b. record { each = λ k a h. rw e (fill_keeps (j - i) i fs k ((f.ones b).each k a h)) } }

  pub full_part : (fs' : List ℕ) (i j high : ℕ) → Part fs fs' i j high → Full full fs'
  full_part fs' i j high p = full_set fs' i j p.is

set_past : (l : List ℕ) (i a : ℕ) → length l ≤ i → set l i a ≡ l
set_past [] i a h = refl
set_past (x ∷ xs) zero a h = absurd (not-suc-le-zero h)
set_past (x ∷ xs) (suc i) a h = ap (λ (l : List ℕ). x ∷ l) (set_past xs i a (omega arith))

-- what is noted for b₀ becomes the greater of what it was and n
module _ (full : List ℕ) (b₀ n : ℕ) where
  noted_at : (b k : ℕ) → k < get_or (set full b₀ (max (get_or full b₀ 0) n)) b 0 * 256 → (k < get_or full b 0 * 256) ⊎ ((b ≡ b₀) × (k < n * 256))
  noted_at b k h =
      by_test ((k < get_or full b 0 * 256) ⊎ ((b ≡ b₀) × (k < n * 256))) (eqb b b₀)
      (λ t. let q = eqb-true b b₀ t in
      by_leb ((k < get_or full b 0 * 256) ⊎ ((b ≡ b₀) × (k < n * 256))) (suc k) (get_or full b 0 * 256) (λ l. inl l)
      (λ l. by_leb ((k < get_or full b 0 * 256) ⊎ ((b ≡ b₀) × (k < n * 256))) (suc b₀) (length full)
      (λ m. inr (q, omega (arith, rw q at l, rw (q, get_or-set_same full b₀ (max (get_or full b₀ 0) n) 0 m) at h)))
      (λ m. absurd (omega (arith, rw (q, set_past full b₀ (max (get_or full b₀ 0) n) (omega arith)) at h, rw q at l)))))
      (λ t. inl (rw (get_or-set_other full b₀ b (max (get_or full b₀ 0) n) 0 (eqb-false b b₀ t)) at h))

-- all blocks of a stretch are full once it is set
pub full_noted : (full fs fs' full' : List ℕ) (low high : ℕ) → Full full fs → high ≤ length fs → fs' ≡ sets fs low (replicate (high - low) 1)
    → full' ≡ set full ((low + 256 - 1) / 256) (max (get_or full ((low + 256 - 1) / 256) 0) (high / 256)) → Full full' fs'
full_noted full fs fs' full' low high f l e d = record { ones = λ b. record { each = one b } }
  where
    b₀ : ℕ
    b₀ = (low + 256 - 1) / 256

    one : (b k : ℕ) → 256 * b ≤ k → k < get_or full' b 0 * 256 → get_or fs' k 0 ≡ 1
    one b k a h =
        ⊎_elim
        (λ (o : k < get_or full b 0 * 256). rw e (fill_keeps (high - low) low fs k ((f.ones b).each k a o)))
        (λ (o : (b ≡ b₀) × (k < high / 256 * 256)).
        let q : 256 * ((low + 256 - 1) / 256) ≤ k = rw o.0 at a in
        let r = o.1 in
        rw e (fill_in (high - low) low fs k (omega arith) (omega arith) (omega arith)))
        (noted_at full b₀ (high / 256) b k (rw d at h))

pub ruleset blocks = (full_set, full_noted)
