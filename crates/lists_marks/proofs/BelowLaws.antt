-- How many numbers of a rising list lie below a bound: what one look tells, a search by halving, and membership.
use Prim.Native.Nat.{ℕ, zero, suc, ◌+◌, ◌-◌, ◌/◌, ◌<◌, ◌≤◌}
use mathlib.Core.Path.{◌≡◌, refl, sym, ◌∙◌}
use mathlib.Core.List.{List, [], ◌∷◌}
use mathlib.Core.Bool.{Bool, true, false}
use native.Mathlib.Nat.{not-suc-le-zero}
use native.Mathlib.Omega.{arith}
use lib.Dec.{ltb, leb, eqb}
use lib.ListN.{length, get_or}
use borrow.Author.Tests.{lt-ltb, le-ltb, le-leb, lt-leb, eq-eqb, ne_eqb, leb-true, leb-false, ltb-true, eqb-true}
use Rattle.laws.specs.Choice.{both}
use Rattle.laws.specs.Lists.{Rising}
use Rattle.laws.proofs.ChoiceLaws.{by_pick, by_leb, both_left, both_right}
use Rattle.laws.proofs.EitherLaws.{either_none}
use Rattle.laws.proofs.RisingLaws.{rising_tail, rising_lt}
use Rattle.laws.proofs.FrontLaws.{rising_above}
use Rattle.lists_marks.specs.Marks.{below, passed, listed_whole, holds, Bound, Inside, Halving, AtLeast}

-- ---- below

pub below_within : (ps : List ℕ) (c : ℕ) → below ps c ≤ length ps
unfolding below
below_within [] c = omega arith
below_within (x ∷ xs) c =
    let h = below_within xs c in
    by_pick (λ r. r ≤ suc (length xs)) (ltb x c) (suc (below xs c)) (below xs c) (λ e. omega arith) (λ e. omega arith)

pub below_none : (ps : List ℕ) (c : ℕ) → ((i : ℕ) → i < length ps → c ≤ get_or ps i 0) → below ps c ≡ 0
unfolding below
below_none [] c h = refl
below_none (x ∷ xs) c h = rw (le-ltb x c (h 0 (omega arith))) (below_none xs c (λ i l. h (suc i) (omega arith)))

pub below_tail : {x : ℕ} {xs : List ℕ} (c : ℕ) → Rising (x ∷ xs) → c ≤ x → below xs c ≡ 0
below_tail {x} {xs} c r h = below_none xs c (λ i l. omega (arith, rising_above r i l))

-- a number below c is one of those counted
pub below_past : (ps : List ℕ) (c i : ℕ) → Rising ps → i < length ps → get_or ps i 0 < c → i < below ps c
unfolding below
below_past [] c i r h e = absurd (not-suc-le-zero h)
below_past (x ∷ xs) c zero r h e = rw (lt-ltb x c e) (omega arith)
below_past (x ∷ xs) c (suc i) r h e =
    let l : x < c = omega (arith, rising_above r i (omega arith)) in
    let m = below_past xs c i (rising_tail r) (omega arith) e in
    rw (lt-ltb x c l) (omega arith)

-- and one that is not below c ends the count
pub below_upto : (ps : List ℕ) (c i : ℕ) → Rising ps → i < length ps → c ≤ get_or ps i 0 → below ps c ≤ i
unfolding below
below_upto [] c i r h e = absurd (not-suc-le-zero h)
below_upto (x ∷ xs) c zero r h e =
    let z = below_tail c r e in
    rw (le-ltb x c e) (omega arith)
below_upto (x ∷ xs) c (suc i) r h e =
    let m = below_upto xs c i (rising_tail r) (omega arith) e in
    by_pick (λ k. k ≤ suc i) (ltb x c) (suc (below xs c)) (below xs c) (λ e. omega arith) (λ e. omega arith)

-- a point between the bounds of a stretch lies in it
pub inside : (ps : List ℕ) (start end low high i : ℕ) → Rising ps → Bound ps start low → Bound ps (end + 1) high → low ≤ i → i < high → Inside start end (get_or ps i 0)
inside ps start end low high i r a b h k =
    let l : i < length ps = omega (arith, b.within) in
    record {
      from = by_leb (start ≤ get_or ps i 0) start (get_or ps i 0) (λ e. e) (λ e. absurd (omega (arith, a.is, below_past ps start i r l e)));
      upto = by_leb (get_or ps i 0 ≤ end) (get_or ps i 0) end (λ e. e) (λ e. absurd (omega (arith, b.is, below_upto ps (end + 1) i r l (omega arith))));
    }

-- ---- halving

module _ (ps : List ℕ) (c : ℕ) where
  pub halving_start : Halving ps c 0 (length ps)
  halving_start = record { least = omega arith; most = below_within ps c; within = omega arith }

  pub halving_up : (low high : ℕ) → Halving ps c low high → Rising ps → low < high → get_or ps (low + (high - low) / 2) 0 < c → Halving ps c (low + (high - low) / 2 + 1) high
  halving_up low high h r l e =
      let m = below_past ps c (low + (high - low) / 2) r (omega (arith, h.within)) e in
      record { least = omega arith; most = h.most; within = h.within }

  pub halving_down : (low high : ℕ) → Halving ps c low high → Rising ps → low < high → c ≤ get_or ps (low + (high - low) / 2) 0 → Halving ps c low (low + (high - low) / 2)
  halving_down low high h r l e =
      let m = below_upto ps c (low + (high - low) / 2) r (omega (arith, h.within)) e in
      record { least = h.least; most = m; within = omega (arith, h.within) }

  pub halving_done : (low high : ℕ) → Halving ps c low high → high ≤ low → Bound ps c low
  halving_done low high h e = record { is = omega (arith, h.least, h.most); within = omega (arith, h.least, h.most, h.within) }

-- ---- looking ahead

pub at_least_zero : (ps : List ℕ) (c : ℕ) → AtLeast ps c 0
at_least_zero ps c = record { least = omega arith; within = omega arith }

pub at_least_past : (ps : List ℕ) (c low : ℕ) → Rising ps → (low ≡ 0 → ⊥) → low ≤ length ps → get_or ps (low - 1) 0 < c → AtLeast ps c low
at_least_past ps c low r p h e =
    let m = below_past ps c (low - 1) r (omega arith) e in
    record { least = omega arith; within = h }

pub ahead_end : (ps : List ℕ) (c low : ℕ) → AtLeast ps c low → Halving ps c low (length ps)
ahead_end ps c low a = record { least = a.least; most = below_within ps c; within = omega arith }

module _ (ps : List ℕ) (c low step : ℕ) where
  pub ahead_on : AtLeast ps c low → Rising ps → 1 ≤ step → step ≤ length ps - low → get_or ps (low + step - 1) 0 < c → AtLeast ps c (low + step)
  ahead_on a r p h e =
      let m = below_past ps c (low + step - 1) r (omega (arith, a.within)) e in
      record { least = omega arith; within = omega (arith, a.within) }

  pub ahead_here : AtLeast ps c low → Rising ps → 1 ≤ step → step ≤ length ps - low → c ≤ get_or ps (low + step - 1) 0 → Halving ps c low (low + step - 1)
  ahead_here a r p h e =
      let m = below_upto ps c (low + step - 1) r (omega (arith, a.within)) e in
      record { least = a.least; most = m; within = omega (arith, a.within) }

-- ---- one or two looks that tell whether i numbers are below c

module _ (ps : List ℕ) (c i : ℕ) where
  pub reaches_last : Rising ps → 0 < i → i ≤ length ps → ltb (get_or ps (i - 1) 0) c ≡ leb i (below ps c)
  reaches_last r p h =
      by_leb (ltb (get_or ps (i - 1) 0) c ≡ leb i (below ps c)) c (get_or ps (i - 1) 0)
      (λ l. le-ltb (get_or ps (i - 1) 0) c l ∙ sym (lt-leb i (below ps c) (omega (arith, below_upto ps c (i - 1) r (omega arith) l))))
      (λ l. lt-ltb (get_or ps (i - 1) 0) c l ∙ sym (le-leb i (below ps c) (omega (arith, below_past ps c (i - 1) r (omega arith) l))))

  pub reaches_none : i ≤ 0 → true ≡ leb i (below ps c)
  reaches_none h = sym (le-leb i (below ps c) (omega arith))

  pub suffices_next : Rising ps → i < length ps → leb c (get_or ps i 0) ≡ leb (below ps c) i
  suffices_next r h =
      by_leb (leb c (get_or ps i 0) ≡ leb (below ps c) i) c (get_or ps i 0)
      (λ l. le-leb c (get_or ps i 0) l ∙ sym (le-leb (below ps c) i (below_upto ps c i r h l)))
      (λ l. lt-leb c (get_or ps i 0) l ∙ sym (lt-leb (below ps c) i (below_past ps c i r h l)))

  pub suffices_end : length ps ≤ i → true ≡ leb (below ps c) i
  suffices_end h = sym (le-leb (below ps c) i (omega (arith, below_within ps c)))

  pub count_over : length ps < i → false ≡ eqb i (below ps c)
  count_over h = sym (ne_eqb i (below ps c) (λ e. omega (arith, below_within ps c)))

  pub count_short : (a : Bool) → a ≡ leb i (below ps c) → a ≡ false → false ≡ eqb i (below ps c)
  count_short a q e =
      let l = leb-false i (below ps c) (sym q ∙ e) in
      sym (ne_eqb i (below ps c) (λ d. omega arith))

  pub count_told : (a b : Bool) → a ≡ leb i (below ps c) → a ≡ true → b ≡ leb (below ps c) i → b ≡ eqb i (below ps c)
  count_told a b q e d =
      let l = leb-true i (below ps c) (sym q ∙ e) in
      by_leb (b ≡ eqb i (below ps c)) (below ps c) i
      (λ m. d ∙ le-leb (below ps c) i m ∙ sym (eq-eqb i (below ps c) (omega arith)))
      (λ m. d ∙ lt-leb (below ps c) i m ∙ sym (ne_eqb i (below ps c) (λ k. omega arith)))

  pub count_is : (b : Bool) → b ≡ eqb i (below ps c) → b ≡ true → Bound ps c i
  count_is b q e =
      let l = eqb-true i (below ps c) (sym q ∙ e) in
      record { is = l; within = omega (arith, below_within ps c) }

module _ (ps : List ℕ) (start end near : ℕ) where
  pub passed_not : length ps < near → false ≡ passed ps start end near
  unfolding passed
  passed_not h = rw (lt-leb near (below ps start) (omega (arith, below_within ps start)))

  pub passed_short : (a : Bool) → a ≡ leb near (below ps start) → a ≡ false → false ≡ passed ps start end near
  unfolding passed
  passed_short a q e = rw (← q, e)

  pub passed_told : (a b : Bool) → a ≡ leb near (below ps start) → a ≡ true → b ≡ leb (below ps (end + 1)) near → b ≡ passed ps start end near
  unfolding passed
  passed_told a b q e d = rw (← q, e) d

  pub passed_none : (b : Bool) → b ≡ passed ps start end near → b ≡ true → below ps (end + 1) ≤ below ps start
  unfolding passed
  passed_none b q e =
      let t = sym q ∙ e in
      let l = leb-true near (below ps start) (both_left (leb near (below ps start)) (leb (below ps (end + 1)) near) t) in
      let m = leb-true (below ps (end + 1)) near (both_right (leb near (below ps start)) (leb (below ps (end + 1)) near) t) in
      omega arith

pub ruleset passing = (passed_not, passed_short, passed_told)

pub ruleset counted = (reaches_last, reaches_none, suffices_next, suffices_end, count_over, count_short, count_told, count_is)

-- ---- a stretch that is listed whole

module _ (ps : List ℕ) (c i : ℕ) (r : Rising ps) (h : i < length ps) (e : get_or ps i 0 ≡ c) where
  -- c at place i: i numbers are below c,
  place_low : Bound ps c i
  place_low =
      let u = below_upto ps c i r h (omega arith) in
      let l : i ≤ below ps c =
      by_leb (i ≤ below ps c) i 0 (λ z. omega arith)
      (λ (p : 0 < i). omega (arith, below_past ps c (i - 1) r (omega arith) (omega (arith, rising_lt r (i - 1) i (omega arith) h)))) in
      record { is = omega arith; within = omega arith }

  -- and one more below c + 1
  place_high : Bound ps (c + 1) (i + 1)
  place_high =
      let l = below_past ps (c + 1) i r h (omega arith) in
      let u : below ps (c + 1) ≤ i + 1 =
      by_leb (below ps (c + 1) ≤ i + 1) (length ps) (i + 1) (λ (z : length ps ≤ i + 1). omega (arith, below_within ps (c + 1)))
      (λ (p : i + 1 < length ps). below_upto ps (c + 1) (i + 1) r p (omega (arith, rising_lt r i (i + 1) (omega arith) p))) in
      record { is = omega arith; within = omega arith }

module _ (ps : List ℕ) (start end near : ℕ) where
  pub record Listed : Type 0 where
    pub order : start ≤ end
    pub starts : near < length ps
    pub first : get_or ps near 0 ≡ start
    pub ends : near + (end - start) < length ps
    pub last : get_or ps (near + (end - start)) 0 ≡ end

  pub listed_says : (b : Bool) → b ≡ listed_whole ps start end near → b ≡ true → Listed
  unfolding listed_whole
  listed_says b q t =
      let e = sym q ∙ t in
      let t₅ = eqb (get_or ps (near + (end - start)) 0) end in
      let t₄ = ltb (end - start) (length ps - near) in
      let t₃ = eqb (get_or ps near 0) start in
      let t₂ = ltb near (length ps) in
      let e₂ = both_right (leb start end) (both t₂ (both t₃ (both t₄ t₅))) e in
      let e₃ = both_right t₂ (both t₃ (both t₄ t₅)) e₂ in
      let e₄ = both_right t₃ (both t₄ t₅) e₃ in
      let near-in = ltb-true near (length ps) (both_left t₂ (both t₃ (both t₄ t₅)) e₂) in
      let more-in = ltb-true (end - start) (length ps - near) (both_left t₄ t₅ e₄) in
      record {
        order = leb-true start end (both_left (leb start end) (both t₂ (both t₃ (both t₄ t₅))) e);
        starts = near-in;
        first = eqb-true (get_or ps near 0) start (both_left t₃ (both t₄ t₅) e₃);
        ends = omega arith;
        last = eqb-true (get_or ps (near + (end - start)) 0) end (both_right t₄ t₅ e₄);
      }

  pub listed_low : (b : Bool) → b ≡ listed_whole ps start end near → b ≡ true → Rising ps → Bound ps start near
  listed_low b q e r =
      let l = listed_says b q e in
      place_low ps start near r l.starts l.first

  pub listed_high : (b : Bool) → b ≡ listed_whole ps start end near → b ≡ true → Rising ps → Bound ps (end + 1) (near + (end - start) + 1)
  listed_high b q e r =
      let l = listed_says b q e in
      place_high ps end (near + (end - start)) r l.ends l.last

pub ruleset listing = (listed_low, listed_high)

-- ---- holds

holds_above : (ps : List ℕ) (c : ℕ) → ((i : ℕ) → i < length ps → c < get_or ps i 0) → holds ps c ≡ false
unfolding holds
holds_above [] c h = refl
holds_above (x ∷ xs) c h =
    rw (ne_eqb x c (λ e. omega (arith, h 0 (omega arith)))) (holds_above xs c (λ i l. h (suc i) (omega arith)))

-- c stands at its place or nowhere
holds_place : (ps : List ℕ) (c : ℕ) → Rising ps → below ps c < length ps → eqb (get_or ps (below ps c) 0) c ≡ holds ps c
unfolding below holds
holds_place [] c r h = absurd (not-suc-le-zero h)
holds_place (x ∷ xs) c r h =
    by_leb (below (x ∷ xs) c < suc (length xs) → eqb (get_or (x ∷ xs) (below (x ∷ xs) c) 0) c ≡ holds (x ∷ xs) c) c x
    (λ (l : c ≤ x) g. rw (le-ltb x c l, below_tail c r l, holds_above xs c (λ i k. omega (arith, rising_above r i k))) (sym (either_none (eqb x c))))
    (λ (l : x < c) g.
    rw (lt-ltb x c l, ne_eqb x c (λ e. omega arith)) (holds_place xs c (rising_tail r) (omega (arith, rw (lt-ltb x c l) at g))))
    h

holds_nowhere : (ps : List ℕ) (c : ℕ) → Rising ps → length ps ≤ below ps c → holds ps c ≡ false
unfolding below holds
holds_nowhere [] c r h = refl
holds_nowhere (x ∷ xs) c r h =
    by_leb (suc (length xs) ≤ below (x ∷ xs) c → holds (x ∷ xs) c ≡ false) c x
    (λ (l : c ≤ x) g. absurd (omega (arith, rw (le-ltb x c l, below_tail c r l) at g)))
    (λ (l : x < c) g. rw (ne_eqb x c (λ e. omega arith)) (holds_nowhere xs c (rising_tail r) (omega (arith, rw (lt-ltb x c l) at g))))
    h

module _ (ps : List ℕ) (c i : ℕ) where
  pub member_here : Rising ps → Bound ps c i → i < length ps → eqb (get_or ps i 0) c ≡ holds ps c
  member_here r b h = rw b.is (holds_place ps c r (omega (arith, b.is)))

  pub member_nowhere : Rising ps → Bound ps c i → length ps ≤ i → false ≡ holds ps c
  member_nowhere r b h = sym (holds_nowhere ps c r (omega (arith, b.is)))

pub ruleset halving = (halving_start, halving_up, halving_down, halving_done, member_here, member_nowhere)

pub ruleset ahead = (at_least_zero, at_least_past, ahead_on, ahead_here, ahead_end)
