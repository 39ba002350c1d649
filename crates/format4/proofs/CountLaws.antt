-- Counting segment by segment: the loop's invariant, and a rule for each way on.
use Prim.Native.Nat.{ℕ, ◌-◌, ◌*◌, ◌≤◌, ◌<◌}
use mathlib.Core.Path.{◌≡◌, refl, sym, ap, ◌∙◌}
use mathlib.Core.List.{List, [], ◌∷◌, ◌++◌}
use mathlib.Core.Bool.{Bool, true, false}
use native.Mathlib.Nat.{add_assoc, add-zero, zero-add}
use native.Mathlib.Omega.{arith}
use lib.Dec.{leb}
use borrow.Author.Tests.{le-leb, lt-leb, leb-true}
use Rattle.laws.proofs.ChoiceLaws.{false-true}
use Rattle.laws.specs.Choice.{pick}
use lib.ListN.{length, get_or, drop, length-append}
use Rattle.laws.specs.Lists.{Pair, pairs}
use Rattle.lists_runs.specs.Runs.{RunEndsAt}
use Rattle.format4_cutting.specs.declared.Segment.{Segment}
use Rattle.format4_cutting.specs.declared.Committed.{Committed}
use Rattle.format4_cutting.specs.declared.Committed.TheVariants.{None, One, Two}
use Rattle.format4_cutting.specs.declared.RangeState.{RangeState}
use Rattle.format4_cutting.specs.declared.Absorbed.{Absorbed}
use Rattle.format4_cutting.specs.declared.Finished.{Finished}
use Rattle.format4_cutting.specs.Steps.{idle, grown, step, finish, to_list, cut_from, entries}
use Rattle.format4_cutting.specs.Cutting.{segments, closing}
use Rattle.format4_cutting.proofs.CuttingLaws.{segments_some, length_array}
use Rattle.format4_cutting.proofs.WalkLaws.{walk_cuts}
use Rattle.format4_cutting.proofs.RunLaws.{run_turn}
use Rattle.format4_cutting.proofs.StepsLaws.{entries-append, sink_step, sink_end}
use Rattle.format4.specs.declared.RangeCounter.{RangeCounter}
use Rattle.format4.specs.Format4.{format4}
use Rattle.format4.specs.declared.Size4.{Size4}
use Rattle.format4.specs.declared.Size4.TheVariants.{Empty, TooLong, Fits}
use Rattle.format4.specs.Size.{Columns16, counter, count_of, length_of4, size_of4}
use Rattle.format4.specs.Walk.{Below, Adds, CountedPairs, counted}
use Rattle.format4.proofs.Format4Laws.{length-format4}

counted-append : (n : RangeCounter) (a b : List Segment) → counted n (a ++ b) ≡ counted (counted n a) b
counted-append n a b = simp (length-append, entries-append, add_assoc)

count_is : (ps : List Pair) → counted (counter 0 0) (cut_from idle ps) ≡ count_of ps
count_is ps = rw (← walk_cuts ps, zero-add (length (segments ps)), zero-add (entries (segments ps)), length_array ps)

-- ---- the counter

pub adds_none : (n : RangeCounter) → Adds n [] n
adds_none n = record { is = simp add-zero; glyphs = omega arith }

pub adds_then : (n m r : RangeCounter) (a b : List Segment) → Adds n a m → Adds m b r → Adds n (a ++ b) r
adds_then n m r a b p q = record {
  is = q.is ∙ ap (λ (c : RangeCounter). counted c b) p.is ∙ sym (counted-append n a b);
  glyphs = omega (arith, p.glyphs, q.glyphs, length-append a b);
}

pub adds_below : (n m : RangeCounter) (x : Segment) → Below 100000000000 n → Adds n (x ∷ []) m → Below 1000000000000 m
adds_below n m x h p = record { segments = rw p.is (omega (arith, h.segments)); glyphs = omega (arith, h.glyphs, p.glyphs) }

few : (o : Committed) → length (to_list o) ≤ 2
few None = omega arith
few (One a) = omega arith
few (Two a b) = omega arith

-- ---- the walk

-- i pairs are walked; what is left, counted from here, gives the whole
pub record Counting (cs gs : List ℕ) (s : RangeState) (n : RangeCounter) (i : ℕ) : Type 0 where
  pub within : i ≤ length cs
  pub segments : n.segments ≤ 2 * i
  pub glyphs : n.glyphs ≤ 131072 * i
  pub left : counted n (cut_from s (pairs (drop i cs) (drop i gs))) ≡ count_of (pairs cs gs)

pub counting_start : (cs gs : List ℕ) (s : RangeState) (n : RangeCounter) → s ≡ idle → n ≡ counter 0 0 → Counting cs gs s n 0
counting_start cs gs s n e f = rw (e, f) (record { within = omega arith; segments = omega arith; glyphs = omega arith; left = count_is (pairs cs gs) })

-- a run: its first pair is absorbed, and the state grows to its last
pub counting_on : (cs gs : List ℕ) (s : RangeState) (n : RangeCounter) (i : ℕ) (a : Absorbed) (m : RangeCounter) (e : ℕ) (t : RangeState)
    → Columns16 cs gs → Counting cs gs s n i → a ≡ step s (get_or cs i 0) (get_or gs i 0) → Adds n (to_list a.out) m
    → RunEndsAt cs gs i e → t ≡ grown a.state (get_or cs (e - 1) 0) (get_or gs (e - 1) 0) → Counting cs gs t m e
counting_on cs gs s n i a m e t k l p u r g = record {
  within = r.within;
  segments = rw u.is (omega (arith, l.segments, few a.out, r.behind));
  glyphs = omega (arith, l.glyphs, u.glyphs, few a.out, r.behind);
  left = sink_step counted counted-append a.out _ _ n m (run_turn cs gs s i a e t k.even p r g) u.is ∙ l.left;
}

-- past the last pair
pub ending_below : (cs gs : List ℕ) (s : RangeState) (n : RangeCounter) (i : ℕ) (o : Committed) (m : RangeCounter) → Columns16 cs gs → Counting cs gs s n i → Adds n (to_list o) m
    → Below 100000000000 m
ending_below cs gs s n i o m k l t = record {
  segments = rw t.is (omega (arith, l.segments, l.within, k.few, few o));
  glyphs = omega (arith, l.glyphs, l.within, k.few, t.glyphs, few o);
}

closed_below : (m r : RangeCounter) (b : Bool) → Below 100000000000 m → Adds m (closing b) r → Below 1000000000000 r
closed_below m r true h u = adds_below m r _ h u
closed_below m r false h u = record { segments = rw u.is (omega (arith, h.segments)); glyphs = omega (arith, h.glyphs, u.glyphs) }

pub counting_end : (cs gs : List ℕ) (s : RangeState) (n : RangeCounter) (i : ℕ) (f : Finished) (m r : RangeCounter) → Columns16 cs gs → Counting cs gs s n i → length cs ≤ i
    → f ≡ finish s → Adds n (to_list f.out) m → Adds m (closing f.close) r → CountedPairs (pairs cs gs) r
counting_end cs gs s n i f m r k l h e t u = record {
  is = u.is ∙ sink_end counted counted-append s cs gs i f n m h e t.is ∙ l.left;
  below = closed_below m r f.close (ending_below cs gs s n i f.out m k l t) u;
}

-- ---- the size

size_some : (cs gs : List ℕ) → length cs ≡ length gs → (length cs ≡ 0 → ⊥)
    → pick (leb (length_of4 (count_of (pairs cs gs))) 65535) (Fits (count_of (pairs cs gs))) TooLong ≡ size_of4 (pairs cs gs)
unfolding size_of4
size_some [] gs e h = absurd (h refl)
size_some (c ∷ cs) [] e h = absurd (omega arith)
size_some (c ∷ cs) (g ∷ gs) e h = refl

pub size_empty : (cs gs : List ℕ) → length cs ≡ 0 → Empty ≡ size_of4 (pairs cs gs)
unfolding size_of4
size_empty [] gs h = refl
size_empty (c ∷ cs) gs h = absurd (omega arith)

module _ (cs gs : List ℕ) (n : RangeCounter) (l : ℕ) (k : Columns16 cs gs) (h : length cs ≡ 0 → ⊥)
    (q : CountedPairs (pairs cs gs) n) (e : l ≡ length_of4 n) where
  same : length_of4 n ≡ length_of4 (count_of (pairs cs gs))
  same = ap length_of4 q.is

  pub size_fits : l ≤ 65535 → Fits n ≡ size_of4 (pairs cs gs)
  size_fits b = ap Fits q.is ∙ rw (le-leb (length_of4 (count_of (pairs cs gs))) 65535 (omega (arith, same))) at (size_some cs gs k.even h)

  pub size_long : 65535 < l → TooLong ≡ size_of4 (pairs cs gs)
  size_long b = rw (lt-leb (length_of4 (count_of (pairs cs gs))) 65535 (omega (arith, same))) at (size_some cs gs k.even h)

-- what a size that fits tells
pub record Told (ps : List Pair) (n : RangeCounter) : Type 0 where
  pub is : n ≡ count_of ps
  pub short : length_of4 n ≤ 65535
  pub some : 1 ≤ n.segments

abbrev counter_of : Size4 → RangeCounter
counter_of Empty = counter 0 0
counter_of TooLong = counter 0 0
counter_of (Fits n) = n

abbrev fitting : Size4 → Bool
fitting Empty = false
fitting TooLong = false
fitting (Fits n) = true

pub fits_tells : (ps : List Pair) (n : RangeCounter) → size_of4 ps ≡ Fits n → Told ps n
unfolding size_of4
fits_tells [] n e = absurd (false-true (ap fitting e))
fits_tells (p ∷ ps) n e = go (leb (length_of4 m) 65535) refl e
  where
    m : RangeCounter
    m = count_of (p ∷ ps)

    go : (t : Bool) → leb (length_of4 m) 65535 ≡ t → pick t (Fits m) TooLong ≡ Fits n → Told (p ∷ ps) n
    go true q r =
        let z : n ≡ m = sym (ap counter_of r) in
        record { is = z; short = rw z (leb-true (length_of4 m) 65535 q); some = rw z (segments_some (p ∷ ps)) }
    go false q r = absurd (false-true (ap fitting r))

pub length-told : (language : ℕ) (ps : List Pair) (n : RangeCounter) → Told ps n → length (format4 language ps) ≡ length_of4 n
length-told language ps n t = length-format4 language ps ∙ ap length_of4 (sym t.is)
