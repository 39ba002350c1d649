-- The flags of the kept points say what the definition asks of the subtables.
use Prim.Native.Nat.{ℕ, zero, suc, ◌-◌, ◌<◌, ◌≤◌}
use mathlib.Core.Path.{◌≡◌, refl, sym, ap, ◌∙◌}
use mathlib.Core.List.{List, [], ◌∷◌}
use mathlib.Core.Bool.{Bool, true, false, not}
use native.Mathlib.Nat.{zero-add}
use native.Mathlib.Omega.{arith}
use lib.Dec.{leb, eqb}
use lib.ListN.{length, get_or, take, drop, length-drop, drop_of_length-le}
use lib.Seq.{sets, take_all}
use Rattle.laws.specs.Choice.{pick, both, either}
use Rattle.laws.specs.Lists.{Rising}
use Rattle.laws.specs.Select.{select, any_of, eq_list}
use Rattle.laws.proofs.AnyLaws.{some_ext, any_of-some}
use Rattle.laws.proofs.ChoiceLaws.{by_pick, by_leb, false-true}
use Rattle.laws.proofs.RisingLaws.{rising_tail}
use Rattle.laws.proofs.SetsLaws.{get_or-sets_in}
use Rattle.lists_marks.specs.Marks.{below, flagged, flag_of, Bound, is_set}
use Rattle.lists_marks.proofs.MarksLaws.{length-flagged}
use Rattle.lists_marks.proofs.BelowLaws.{below_tail}
use Rattle.plan_listing.specs.Listing.{maps, PointsFlagged}
use Rattle.plan.specs.Covered.{reaches_above, map_alike, sibling_covers}
use Rattle.plan.specs.CoveredFlags.{some_set, is_other, flags_differ, CoveredRoom}
use Rattle.plan.specs.Sibling.{first_sibling}
use borrow.Author.Tests.{lt-ltb, le-ltb, le-leb, lt-leb, eq-eqb, ne_eqb}

flagged_at : (m : ℕ → Bool) (ps : List ℕ) (i : ℕ) → i < length ps → get_or (flagged m ps) i 0 ≡ flag_of (m (get_or ps i 0))
unfolding flagged
flagged_at m [] i h = absurd (omega arith)
flagged_at m (p ∷ ps) zero h = refl
flagged_at m (p ∷ ps) (suc i) h = flagged_at m ps i (omega arith)

-- flags fs that were set to what m says of the points
pub record Told (ps : List ℕ) (m : ℕ → Bool) (fs : List ℕ) : Type 0 where
  pub flag_at : (i : ℕ) → i < length ps → get_or fs i 0 ≡ flag_of (m (get_or ps i 0))

told : (ps : List ℕ) (m : ℕ → Bool) (fs₀ fs : List ℕ) → length ps ≤ length fs₀ → fs ≡ sets fs₀ 0 (flagged m ps) → Told ps m fs
told ps m fs₀ fs room e = record {
  flag_at = λ i h.
      rw (e, ← zero-add i)
      (get_or-sets_in fs₀ 0 (flagged m ps) i (rw (length-flagged m ps) h) (rw (length-flagged m ps) (omega arith))
      ∙ flagged_at m ps i h ∙ rw (zero-add i));
}

set_told : (ps : List ℕ) (m : ℕ → Bool) (fs : List ℕ) → Told ps m fs → some_set fs (length ps) ≡ any_of m ps
unfolding some_set
set_told ps m fs t =
    some_ext (is_set fs) (λ i. m (get_or ps i 0)) (length ps) 0
    (λ i a b. rw (t.flag_at i (omega arith)) (go (m (get_or ps i 0))))
    ∙ sym (any_of-some m 0 ps)
  where
    go : (t : Bool) → not (eqb (flag_of t) 0) ≡ t
    go true = refl
    go false = refl

abbrev differs : (ℕ → Bool) → (ℕ → Bool) → ℕ → Bool
differs m q c = not (eqb (flag_of (m c)) (flag_of (q c)))

differ_told : (ps : List ℕ) (m q : ℕ → Bool) (fs gs : List ℕ) → Told ps m fs → Told ps q gs
    → flags_differ fs gs (length ps) ≡ any_of (differs m q) ps
unfolding flags_differ
differ_told ps m q fs gs t u =
    some_ext (is_other fs gs) (λ i. differs m q (get_or ps i 0)) (length ps) 0
    (λ i a b. rw (t.flag_at i (omega arith), u.flag_at i (omega arith)))
    ∙ sym (any_of-some (differs m q) 0 ps)

-- ---- no flags differ exactly where the points that pass are the same

-- a point that fails q does not stand first of those that pass
first_passes : (q : ℕ → Bool) (c : ℕ) (bs cs : List ℕ) → q c ≡ false → eq_list (c ∷ bs) (select q cs) ≡ false
unfolding select eq_list
first_passes q c bs [] e = refl
first_passes q c bs (x ∷ cs) e =
    by_pick (λ (l : List ℕ). eq_list (c ∷ bs) l ≡ false) (q x) (x ∷ select q cs) (select q cs)
    (λ f. rw (ne_eqb c x (λ h. false-true (sym e ∙ ap q h ∙ f))))
    (λ f. first_passes q c bs cs e)

passes_first : (q : ℕ → Bool) (c : ℕ) (bs cs : List ℕ) → q c ≡ false → eq_list (select q cs) (c ∷ bs) ≡ false
unfolding select eq_list
passes_first q c bs [] e = refl
passes_first q c bs (x ∷ cs) e =
    by_pick (λ (l : List ℕ). eq_list l (c ∷ bs) ≡ false) (q x) (x ∷ select q cs) (select q cs)
    (λ f. rw (ne_eqb x c (λ h. false-true (sym e ∙ ap q (sym h) ∙ f))))
    (λ f. passes_first q c bs cs e)

alike_more : (m q : ℕ → Bool) (c : ℕ) (cs : List ℕ) (t u : Bool) → m c ≡ t → q c ≡ u → not (any_of (differs m q) cs) ≡ eq_list (select m cs) (select q cs)
    → not (either (not (eqb (flag_of t) (flag_of u))) (any_of (differs m q) cs)) ≡ eq_list (pick t (c ∷ select m cs) (select m cs)) (pick u (c ∷ select q cs) (select q cs))
unfolding eq_list
alike_more m q c cs true true e f h = rw (eq-eqb c c refl) h
alike_more m q c cs true false e f h = sym (first_passes q c (select m cs) cs f)
alike_more m q c cs false true e f h = sym (passes_first m c (select q cs) cs e)
alike_more m q c cs false false e f h = h

alike : (m q : ℕ → Bool) (cs : List ℕ) → not (any_of (differs m q) cs) ≡ eq_list (select m cs) (select q cs)
unfolding select any_of eq_list
alike m q [] = refl
alike m q (c ∷ cs) = alike_more m q c cs (m c) (q c) refl refl (alike m q cs)

-- ---- the points at or above 0x10000 are the last ones

both_none : (t : Bool) → both t false ≡ false
both_none true = refl
both_none false = refl

both_all : (t : Bool) → both t true ≡ t
both_all true = refl
both_all false = refl

any_above : (m : ℕ → Bool) (c : ℕ) (ps : List ℕ) → Rising ps → any_of (λ p. both (m p) (leb c p)) ps ≡ any_of m (drop (below ps c) ps)
unfolding any_of below
any_above m c [] r = refl
any_above m c (x ∷ ps) r =
    let e = any_above m c ps (rising_tail r) in
    by_leb (any_of (λ p. both (m p) (leb c p)) (x ∷ ps) ≡ any_of m (drop (below (x ∷ ps) c) (x ∷ ps))) c x
    (λ (h : c ≤ x). rw (le-leb c x h, le-ltb x c h, below_tail c r h, both_all (m x)) (ap (either (m x)) (rw (below_tail c r h) at e)))
    (λ (h : x < c). rw (lt-leb c x h, lt-ltb x c h, both_none (m x)) e)

rising_drop : (i : ℕ) (ps : List ℕ) → Rising ps → Rising (drop i ps)
rising_drop zero ps r = r
rising_drop (suc i) [] r = r
rising_drop (suc i) (x ∷ ps) r = rising_drop i ps (rising_tail r)

module _ (xs : List ℕ) (k n : ℕ) (ps flags : List ℕ) (b : PointsFlagged n ps flags) where
  pub some_mapped : (fs : List ℕ) (u : Bool) → fs ≡ sets flags 0 (flagged (maps xs n k) ps) → u ≡ some_set fs (length ps) → u ≡ any_of (maps xs n k) ps
  some_mapped fs u d v = v ∙ set_told ps (maps xs n k) fs (told ps (maps xs n k) flags fs b.flagged.beside d)

  module _ (split : ℕ) (q : Bound ps 0x10000 split) where
    -- the points from there on, as they are lent
    abbrev part : List ℕ
    part = take (length ps - split) (drop split ps)

    part_is : part ≡ drop split ps
    part_is = take_all (length ps - split) (drop split ps) (omega (arith, length-drop split ps))

    pub beside_part : PointsFlagged n part flags
    beside_part = record {
      glyphs = b.glyphs;
      flagged = rw part_is (record { rising = rising_drop split ps b.flagged.rising; beside = omega (arith, b.flagged.beside, length-drop split ps) });
    }

    pub above_mapped : (u : Bool) → u ≡ any_of (maps xs n k) part → u ≡ reaches_above xs n ps k
    unfolding reaches_above
    above_mapped u e = e ∙ rw (part_is, q.is) (sym (any_above (maps xs n k) 0x10000 ps b.flagged.rising))

    pub above_none : length ps ≤ split → false ≡ reaches_above xs n ps k
    unfolding any_of
    above_none h = above_mapped false (rw (part_is, drop_of_length-le ps h))

pub ruleset reaching_above = (some_mapped, beside_part, above_mapped, above_none)

-- ---- covered, read off the code's answers

module _ (xs : List ℕ) (m k n : ℕ) (kept flags others : List ℕ) (i : ℕ) where
  pub no_sibling : CoveredRoom xs m k n kept flags others → i ≡ first_sibling xs k → m ≤ i → false ≡ sibling_covers xs n kept k
  unfolding sibling_covers
  no_sibling r f h = rw (← f, ← r.counted.is, le-ltb i m h)

  -- work room that was written to is work room still
  pub beside_again : (room : List ℕ) → CoveredRoom xs m k n kept flags others → length room ≡ length flags → PointsFlagged n kept room
  beside_again room r e = record { glyphs = r.glyphs; flagged = record { rising = r.rising; beside = omega (arith, e, r.beside) } }

  module _ (u : Bool) (r : CoveredRoom xs m k n kept flags others) (f : i ≡ first_sibling xs k) (h : i < m) (v : u ≡ reaches_above xs n kept k) where
    pub reached_above : u ≡ true → false ≡ sibling_covers xs n kept k
    unfolding sibling_covers
    reached_above g = rw (← f, ← r.counted.is, lt-ltb i m h, ← v, g)

    pub compared : (room fs gs : List ℕ) (b : Bool) → u ≡ false → length room ≡ length flags
        → fs ≡ sets room 0 (flagged (maps xs n k) kept) → gs ≡ sets others 0 (flagged (maps xs n i) kept) → b ≡ flags_differ fs gs (length kept)
        → not b ≡ sibling_covers xs n kept k
    unfolding sibling_covers map_alike
    compared room fs gs b g e d c w =
        let s = told kept (maps xs n k) room fs (omega (arith, e, r.beside)) d in
        let t = told kept (maps xs n i) others gs r.again c in
        let z : b ≡ any_of (differs (maps xs n k) (maps xs n i)) kept = w ∙ differ_told kept (maps xs n k) (maps xs n i) fs gs s t in
        let y : not b ≡ eq_list (select (maps xs n k) kept) (select (maps xs n i) kept) = ap not z ∙ alike (maps xs n k) (maps xs n i) kept in
        rw (← r.counted.is, ← f, lt-ltb i m h, ← v, g) y

pub ruleset covering = (no_sibling, beside_again, reached_above, compared)
