-- Laws of the range state's steps, and of a walk over two slices with it.
use Prim.Native.Nat.{ℕ, ◌+◌, ◌≤◌, ◌<◌}
use native.Mathlib.Nat.{add_assoc, zero-add}
use native.Mathlib.Numerals.{add-one}
use mathlib.Core.List.{List, [], ◌∷◌, ◌++◌}
use lib.ListN.{length, get_or, drop, drop_of_length-le}
use lib.Seq.{drop-cons}
use mathlib.Core.Path.{◌≡◌, sym, ◌∙◌, ap}
use mathlib.Core.Bool.{Bool, true, false}
use lib.Dec.{lit≤}
use borrow.Author.Tests.{eq-eqb, ne_eqb}
use Rattle.laws.specs.Choice.{pick}
use Rattle.laws.specs.Lists.{pairs}
use Rattle.format4_cutting.specs.declared.RangeState.{RangeState}
use Rattle.format4_cutting.specs.declared.Segment.{Segment}
use Rattle.format4_cutting.specs.declared.Committed.{Committed}
use Rattle.format4_cutting.specs.declared.Finished.{Finished}
use Rattle.format4_cutting.specs.Steps.{begun, turned, cost_of, pays, commit, absorbed, step, finish, to_list, cut_from, entries}
use Rattle.format4_cutting.specs.Cutting.{closing, entries_of}

pick_small : (t : Bool) → (1 ≤ pick t 16 8) × (pick t 16 8 ≤ 16)
pick_small true = (lit≤ tt, lit≤ tt)
pick_small false = (lit≤ tt, lit≤ tt)

pub cost_small : (s : RangeState) → (1 ≤ cost_of s) × (cost_of s ≤ 16)
cost_small s = pick_small s.later

-- ---- a pair that commits: it ends the run, which pays, or the range
module _ (s u : RangeState) (c g cost : ℕ) (o : Committed) (r : s.running ≡ true) (k : o ≡ commit s cost) where
  -- x is what the code found as the cost, and b whether the run pays it
  pub run_ends : (x : ℕ) (b : Bool) → c ≡ s.end + 1 → (g ≡ s.glyph + 1 → ⊥) → x ≡ cost_of s → b ≡ pays s x → b ≡ true → cost ≡ x → u ≡ turned s c c g
      → absorbed u o ≡ step s c g
  unfolding step
  run_ends x b p q e y t d n =
      let pay : pays s (cost_of s) ≡ true = rw (← e) (sym y ∙ t) in
      rw (n, k, d, e, eq-eqb c (s.end + 1) p, ne_eqb g (s.glyph + 1) q, pay, r)

  pub range_ends : (c ≡ s.end + 1 → ⊥) → cost ≡ 8 → u ≡ begun c g → absorbed u o ≡ step s c g
  unfolding step
  range_ends p e n = rw (n, k, e, ne_eqb c (s.end + 1) p, r)

pub entries-append : (a b : List Segment) → entries (a ++ b) ≡ entries a + entries b
entries-append [] b = sym (zero-add (entries b))
entries-append (x ∷ a) b = ap (λ (n : ℕ). entries_of x + n) (entries-append a b) ∙ sym (add_assoc (entries_of x) (entries a) (entries b))

-- one turn of a walk over two slices: what is left at i is what the pair at i commits, and what is left at i + 1
pub walk_step : (s : RangeState) (cs gs : List ℕ) (i : ℕ) → i < length cs → i < length gs
    → cut_from s (pairs (drop i cs) (drop i gs))
    ≡ to_list (step s (get_or cs i 0) (get_or gs i 0)).out ++ cut_from (step s (get_or cs i 0) (get_or gs i 0)).state (pairs (drop (i + 1) cs) (drop (i + 1) gs))
unfolding cut_from
walk_step s cs gs i p q = rw (add-one i, drop-cons cs i 0 p, drop-cons gs i 0 q)

-- past the last pair
pub walk_end : (s : RangeState) (cs gs : List ℕ) (i : ℕ) → length cs ≤ i
    → cut_from s (pairs (drop i cs) (drop i gs)) ≡ to_list (finish s).out ++ closing (finish s).close
unfolding cut_from
walk_end s cs gs i p = rw (drop_of_length-le cs p)

-- ---- one law for every walk: x is what the walk has made so far, and `run x ss` what it makes of the segments ss on top of x
module _ {X : Type 0} (run : X → List Segment → X) (app : (x : X) (a b : List Segment) → run x (a ++ b) ≡ run (run x a) b) where
  -- what is committed is made of x, and then what is left
  pub sink_step : (o : Committed) (before after : List Segment) (x x' : X) → before ≡ to_list o ++ after → x' ≡ run x (to_list o) → run x' after ≡ run x before
  sink_step o before after x x' e h = rw (h, e) (sym (app x (to_list o) after))

  pub sink_end : (s : RangeState) (cs gs : List ℕ) (i : ℕ) (f : Finished) (x x' : X) → length cs ≤ i
      → f ≡ finish s → x' ≡ run x (to_list f.out) → run x' (closing f.close) ≡ run x (cut_from s (pairs (drop i cs) (drop i gs)))
  sink_end s cs gs i f x x' p e h = rw (h, e, walk_end s cs gs i p) (sym (app x (to_list (finish s).out) (closing (finish s).close)))
