-- One segment, walking down: a flag once decided stays, and blocks of decided flags are passed over.
use Prim.Native.Nat.{ℕ, zero, suc, ◌+◌, ◌*◌, ◌/◌, ◌%◌, ◌<◌, ◌≤◌}
use mathlib.Core.Path.{◌≡◌, refl, sym, ap, ◌∙◌}
use mathlib.Core.List.{List}
use mathlib.Core.Bool.{Bool, true, false}
use native.Mathlib.Omega.{arith}
use lib.Dec.{eqb}
use lib.ListN.{length, get_or, set, replicate, length-set}
use lib.Seq.{get_or-set_same, get_or-set_other}
use borrow.Author.Tests.{le-leb, lt-leb, ne_eqb, eqb-true, eqb-false}
use Rattle.laws.specs.Choice.{pick}
use Rattle.laws.specs.Lists.{Rising}
use Rattle.laws.proofs.ChoiceLaws.{by_test, by_leb}
use Rattle.lists_marks.specs.Marks.{between, flag_of, Bound, Flags, Inside}
use Rattle.lists_marks.proofs.BelowLaws.{below_past, below_upto, inside}
use Rattle.laws.proofs.ReadLaws.{get_or_row}
use Rattle.format4_segments.specs.declared.Segment4.{Segment4}
use Rattle.format4_collect.specs.Downward.{word, decided, Held, Decided, NotedBlocks, DecidedBy}

-- ---- one flag

decided_shut : (b : Bool) (f : ℕ) → (f ≡ 0 → ⊥) → decided b f ≡ f
unfolding decided
decided_shut b f h = rw (ne_eqb f 0 h)

word_some : (b : Bool) → word b ≡ 0 → ⊥
word_some true e = omega (arith, e)
word_some false e = omega (arith, e)

decided_some : (b : Bool) (f : ℕ) → decided b f ≡ 0 → ⊥
unfolding decided
decided_some b f e = by_test ⊥ (eqb f 0) (λ t. word_some b (rw t at e)) (λ t. eqb-false f 0 t (rw t at e))

pub decided-word : (b w : Bool) → decided b (word w) ≡ word w
decided-word b w = decided_shut b (word w) (word_some w)

pub word_flag : (w : Bool) → word w % 2 ≡ flag_of w
word_flag true = refl
word_flag false = refl

-- ---- flags from low up to high

module _ (v : ℕ → Bool) (ps fs : List ℕ) where
  pub decided_none : (low : ℕ) → Decided v ps fs fs low low
  decided_none low =
      record { same = refl; order = omega arith; here = λ k a h. absurd (omega arith); under = λ k h. refl; over = λ k h. refl }

  pub decided_then : (fs₁ fs₂ : List ℕ) (low mid high : ℕ) → Decided v ps fs fs₁ low mid → Decided v ps fs₁ fs₂ mid high → Decided v ps fs fs₂ low high
  decided_then fs₁ fs₂ low mid high d e =
      record {
        same = e.same ∙ d.same;
        order = omega (arith, d.order, e.order);
        here = λ k a h.
            by_leb (get_or fs₂ k 0 ≡ decided (v (get_or ps k 0)) (get_or fs k 0)) mid k
            (λ (l : mid ≤ k). e.here k l h ∙ ap (decided (v (get_or ps k 0))) (d.over k l))
            (λ (l : k < mid). e.under k l ∙ d.here k a l);
        under = λ k h. e.under k (omega (arith, d.order)) ∙ d.under k h;
        over = λ k h. e.over k h ∙ d.over k (omega (arith, e.order));
      }

  pub decided_done : (fs' : List ℕ) (low high j : ℕ) → Decided v ps fs fs' low j → j ≤ high → high ≤ j → Decided v ps fs fs' low high
  decided_done fs' low high j d h l =
      let e : high ≡ j = omega arith in
      rw e d

  decided_one : (i f : ℕ) → i < length fs → f ≡ decided (v (get_or ps i 0)) (get_or fs i 0) → Decided v ps fs (set fs i f) i (i + 1)
  decided_one i f h e =
      record {
        same = length-set fs i f;
        order = omega arith;
        here = λ k a l.
            let q : k ≡ i = omega arith in
            rw q (get_or-set_same fs i f 0 h ∙ e);
        under = λ k l. get_or-set_other fs i k f 0 (λ q. omega arith);
        over = λ k l. get_or-set_other fs i k f 0 (λ q. omega arith);
      }

  -- a flag that is not 0 stays
  stays : (fs' : List ℕ) (low high k : ℕ) → Decided v ps fs fs' low high → (get_or fs k 0 ≡ 0 → ⊥) → get_or fs' k 0 ≡ get_or fs k 0
  stays fs' low high k d s =
      by_leb (get_or fs' k 0 ≡ get_or fs k 0) low k
      (λ (a : low ≤ k). by_leb (get_or fs' k 0 ≡ get_or fs k 0) high k (λ (h : high ≤ k). d.over k h)
      (λ (h : k < high). d.here k a h ∙ decided_shut (v (get_or ps k 0)) (get_or fs k 0) s))
      (λ (a : k < low). d.under k a)

pub decided_on : (v : ℕ → Bool) (ps fs₀ fs : List ℕ) (start end low high j f : ℕ) (b : Bool) → Decided v ps fs₀ fs low j → Held ps start end low high → Flags ps fs₀ → j < high
    → b ≡ v (get_or ps j 0) → f ≡ decided b (get_or fs j 0) → Decided v ps fs₀ (set fs j f) low (j + 1)
decided_on v ps fs₀ fs start end low high j f b d l k h q e =
    decided_then v ps fs₀ fs (set fs j f) low j (j + 1) d
    (decided_one v ps fs j f (omega (arith, d.same, l.within, k.beside)) (rw q at e))

pub ruleset deciding = (decided_none, decided_on, decided_done)

-- a part of them, from j on
pub held_part : (v : ℕ → Bool) (ps fs₀ fs : List ℕ) (start end low high j e : ℕ) → Held ps start end low high → Decided v ps fs₀ fs low j → (j < e) × (e ≤ 256 * (j / 256) + 256) × (e ≤ high)
    → Held ps start end j e
held_part v ps fs₀ fs start end low high j e l d h =
    record { each = λ k a b. l.each k (omega (arith, d.order)) (omega (arith, h.2)); within = omega (arith, l.within, h.2) }

-- there is still a flag for each point
pub flags_kept : (v : ℕ → Bool) (ps fs₀ fs : List ℕ) (low j : ℕ) → Flags ps fs₀ → Decided v ps fs₀ fs low j → Flags ps fs
flags_kept v ps fs₀ fs low j k d = record { rising = k.rising; beside = omega (arith, k.beside, d.same) }

-- each of them lies in the segment
pub held_at : (v : ℕ → Bool) (ps fs₀ fs : List ℕ) (start end low high j : ℕ) → Held ps start end low high → Decided v ps fs₀ fs low j → j < high → Inside start end (get_or ps j 0)
held_at v ps fs₀ fs start end low high j l d h = l.each j d.order h

-- ---- blocks

pub noted_none : (n : ℕ) (fs : List ℕ) → NotedBlocks (replicate n 0) fs
noted_none n fs = record { shut = λ b k s a h z. s (get_or_row {A = ℕ} 0 n b) }

module _ (v : ℕ → Bool) (noted ps fs : List ℕ) (low high : ℕ) (n : NotedBlocks noted fs) where
  pub noted_kept : (fs' : List ℕ) → Decided v ps fs fs' low high → NotedBlocks noted fs'
  noted_kept fs' d =
      record { shut = λ b k s a h z. n.shut b k s a h (sym (stays v ps fs fs' low high k d (n.shut b k s a h)) ∙ z) }

  pub noted_more : (fs' : List ℕ) → Decided v ps fs fs' low high → low + 256 ≤ high → high ≤ 256 * (low / 256) + 256 → NotedBlocks (set noted (low / 256) 1) fs'
  noted_more fs' d l u = record { shut = one }
    where
      one : (b k : ℕ) → (get_or (set noted (low / 256) 1) b 0 ≡ 0 → ⊥) → 256 * b ≤ k → k < 256 * b + 256 → get_or fs' k 0 ≡ 0 → ⊥
      one b k s a h z =
          by_test ⊥ (eqb b (low / 256))
          (λ t. let q = eqb-true b (low / 256) t in
          let a' : 256 * (low / 256) ≤ k = rw q at a in
          let h' : k < 256 * (low / 256) + 256 = rw q at h in
          decided_some (v (get_or ps k 0)) (get_or fs k 0) (sym (d.here k (omega arith) (omega arith)) ∙ z))
          (λ t. (noted_kept fs' d).shut b k (rw (get_or-set_other noted (low / 256) b 1 0 (eqb-false b (low / 256) t)) at s) a h z)

  pub noted_skip : (get_or noted (low / 256) 0 ≡ 0 → ⊥) → low < high → high ≤ 256 * (low / 256) + 256 → Decided v ps fs fs low high
  noted_skip s l u =
      record {
        same = refl;
        order = omega arith;
        here = λ k a h. sym (decided_shut (v (get_or ps k 0)) (get_or fs k 0) (n.shut (low / 256) k s (omega arith) (omega arith)));
        under = λ k h. refl;
        over = λ k h. refl;
      }

-- ---- the points of a segment

rising_over : (ps : List ℕ) → Rising ps → (k : ℕ) → k < length ps → k ≤ get_or ps k 0
rising_over ps r zero h = omega arith
rising_over ps r (suc k) h = omega (arith, rising_over ps r k (omega arith), r.climbs k h)

-- no more than c numbers are below c
pub below_few : (ps : List ℕ) (c n : ℕ) → Rising ps → Bound ps c n → n ≤ c
below_few ps c n r b =
    by_leb (n ≤ c) n c (λ l. l)
    (λ (l : c < n).
    let h : c < length ps = omega (arith, b.within) in
    omega (arith, b.is, below_upto ps c c r h (rising_over ps r c h)))

pub span_few : (ps fs : List ℕ) (n : ℕ) (g : Segment4) → Flags ps fs → Bound ps (g.read.end + 1) n → n ≤ 65536
span_few ps fs n g k b = omega (arith, below_few ps (g.read.end + 1) n k.rising b, g.is_read.end_below)

module _ (ps : List ℕ) (start end low high : ℕ) (r : Rising ps) (a : Bound ps start low) (b : Bound ps (end + 1) high) where
  pub held_all : Held ps start end low high
  held_all = record { each = λ k h l. inside ps start end low high k r a b h l; within = b.within }

  before : (k : ℕ) → k < length ps → k < low → between start end (get_or ps k 0) ≡ false
  before k h l =
      by_leb (between start end (get_or ps k 0) ≡ false) start (get_or ps k 0)
      (λ (e : start ≤ get_or ps k 0). absurd (omega (arith, a.is, below_upto ps start k r h e)))
      (λ (e : get_or ps k 0 < start). rw (lt-leb start (get_or ps k 0) e))

  behind : (k : ℕ) → k < length ps → low ≤ k → high ≤ k → between start end (get_or ps k 0) ≡ false
  behind k h m l =
      by_leb (between start end (get_or ps k 0) ≡ false) start (get_or ps k 0)
      (λ (d : start ≤ get_or ps k 0).
      by_leb (between start end (get_or ps k 0) ≡ false) (get_or ps k 0) end
      (λ (e : get_or ps k 0 ≤ end). absurd (omega (arith, b.is, below_past ps (end + 1) k r h (omega arith))))
      (λ (e : end < get_or ps k 0). rw (le-leb start (get_or ps k 0) d, lt-leb (get_or ps k 0) end e)))
      (λ (d : get_or ps k 0 < start). rw (lt-leb start (get_or ps k 0) d))

  pub decided_by : (v : ℕ → Bool) (fs fs' : List ℕ) → Decided v ps fs fs' low high → DecidedBy (between start end) v ps fs fs'
  decided_by v fs fs' d = record { same = d.same; here = one; past = λ k h. d.over k (omega (arith, b.within)) }
    where
      one : (k : ℕ) → k < length ps → get_or fs' k 0 ≡ pick (between start end (get_or ps k 0)) (decided (v (get_or ps k 0)) (get_or fs k 0)) (get_or fs k 0)
      one k h =
          by_leb _ low k
          (λ (m : low ≤ k).
          by_leb _ high k (λ (l : high ≤ k). rw (behind k h m l) (d.over k l))
          (λ (l : k < high).
          let i = inside ps start end low high k r a b m l in
          rw (le-leb start (get_or ps k 0) i.from, le-leb (get_or ps k 0) end i.upto) (d.here k m l)))
          (λ (m : k < low). rw (before k h m) (d.under k m))

  pub decided_by_none : (v : ℕ → Bool) (fs : List ℕ) → high ≤ low → DecidedBy (between start end) v ps fs fs
  decided_by_none v fs e = record { same = refl; here = one; past = λ k h. refl }
    where
      one : (k : ℕ) → k < length ps → get_or fs k 0 ≡ pick (between start end (get_or ps k 0)) (decided (v (get_or ps k 0)) (get_or fs k 0)) (get_or fs k 0)
      one k h =
          by_leb _ low k (λ (m : low ≤ k). rw (behind k h m (omega arith)))
          (λ (m : k < low). rw (before k h m))

pub ruleset holding = (held_all, decided_by, decided_by_none)
