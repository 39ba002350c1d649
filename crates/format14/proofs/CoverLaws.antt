-- Which flags stand after every range has marked its points: those of the points that some range covers.
use Prim.Native.Nat.{ℕ, ◌+◌, ◌-◌, ◌*◌, ◌<◌, ◌≤◌}
use mathlib.Core.Path.{◌≡◌, refl, ap, ◌∙◌}
use mathlib.Core.List.{List, [], ◌∷◌}
use mathlib.Core.Bool.{Bool, true, false}
use native.Mathlib.Omega.{arith}
use lib.ListN.{length, replicate}
use lib.Seq.{sets}
use Rattle.laws.specs.Choice.{pick, either}
use Rattle.laws.specs.Lists.{Pair, keep}
use Rattle.laws.specs.Select.{each, any_of, select}
use Rattle.laws.proofs.SelectLaws.{each_on, each_end, each_all}
use Rattle.lists_marks.specs.Marks.{between, flagged, marked, kept}
use Rattle.lists_marks.proofs.MarksLaws.{painted-flagged, flagged_ext, flagged_none, kept_sets}
use Rattle.number.specs.BigEndian.{Num, Byte}
use Rattle.format14_uvs.specs.Default.{range, range_at, ranges, covers, covered_by, covered_points}

-- one range
pub mark_is : (xs : List ℕ) (place : ℕ) (ks fs fin : List ℕ) (start additional : ℕ) → Num 3 xs place start → Byte xs (place + 3) additional
    → fin ≡ marked (between start (start + additional)) ks fs → fin ≡ marked (λ c. covers c (range xs place)) ks fs
mark_is xs place ks fs fin start additional n b e = rw (← n.is, ← b.is) e

-- one range after the other
unfoldable pub mark_all : List ℕ → List Pair → List ℕ → List ℕ
mark_all ks [] fs = fs
mark_all ks (a ∷ rs) fs = mark_all ks rs (marked (λ c. covers c a) ks fs)

either_turn : (h a q : Bool) → either a (pick h true q) ≡ either (either h a) q
either_turn true true q = refl
either_turn true false q = refl
either_turn false a q = refl

-- on flags that say q
mark_flagged : (ks fs : List ℕ) → length ks ≤ length fs → (rs : List Pair) (q : ℕ → Bool)
    → mark_all ks rs (sets fs 0 (flagged q ks)) ≡ sets fs 0 (flagged (λ c. either (any_of (covers c) rs) (q c)) ks)
unfolding mark_all any_of
mark_flagged ks fs h [] q = refl
mark_flagged ks fs h (a ∷ rs) q =
    rw (painted-flagged (λ c. covers c a) (λ c. true) q ks fs h, mark_flagged ks fs h rs (λ c. pick (covers c a) true (q c)))
    (ap (λ (l : List ℕ). sets fs 0 l)
    (flagged_ext (λ c. either (any_of (covers c) rs) (pick (covers c a) true (q c))) (λ c. either (any_of (covers c) (a ∷ rs)) (q c)) (λ c. either_turn (covers c a) (any_of (covers c) rs) (q c)) ks))

either_none : (a : Bool) → either a false ≡ a
either_none true = refl
either_none false = refl

-- on flags that are clear
mark_clear : (ks fs : List ℕ) → length ks ≤ length fs → (rs : List Pair) → mark_all ks rs (sets fs 0 (replicate (length ks) 0)) ≡ sets fs 0 (flagged (λ c. any_of (covers c) rs) ks)
mark_clear ks fs h rs =
    rw (← flagged_none ks) (mark_flagged ks fs h rs (λ c. false)
    ∙ ap (λ (l : List ℕ). sets fs 0 l) (flagged_ext (λ c. either (any_of (covers c) rs) false) (λ c. any_of (covers c) rs) (λ c. either_none (any_of (covers c) rs)) ks))

-- ---- the loop over the ranges

pub record Covering (xs : List ℕ) (p : ℕ) (ks : List ℕ) (r : ℕ) (fs₁ fs : List ℕ) (i : ℕ) : Type 0 where
  pub within : i ≤ r
  pub same : length fs ≡ length fs₁
  pub left : mark_all ks (each (range_at xs p) (r - i) i) fs ≡ mark_all ks (each (range_at xs p) r 0) fs₁

module _ (xs : List ℕ) (p : ℕ) (ks : List ℕ) (r : ℕ) (fs₁ : List ℕ) where
  pub covering_start : Covering xs p ks r fs₁ fs₁ 0
  covering_start = record { within = omega arith; same = refl; left = rw (each_all (range_at xs p) r 0) }

  pub covering_on : (fs next : List ℕ) (i : ℕ) → Covering xs p ks r fs₁ fs i → i < r → next ≡ marked (λ c. covers c (range xs (p + 4 + 4 * i))) ks fs
      → length next ≡ length fs → Covering xs p ks r fs₁ next (i + 1)
  unfolding mark_all
  covering_on fs next i l h e k = record {
    within = omega arith;
    same = k ∙ l.same;
    left = rw e (rw (each_on (range_at xs p) r i h) at l.left);
  }

  pub covering_end : (fs₀ fs : List ℕ) (i : ℕ) → Covering xs p ks r fs₁ fs i → r ≤ i → fs₁ ≡ sets fs₀ 0 (replicate (length ks) 0) → Num 4 xs p r → length ks ≤ length fs₀
      → fs ≡ sets fs₀ 0 (flagged (covered_by xs p) ks)
  unfolding mark_all
  covering_end fs₀ fs i l h e n b = rw (each_end (range_at xs p) r i h, e, n.is) at l.left ∙ mark_clear ks fs₀ b (ranges xs p)

pub ruleset covering = (covering_start, covering_on, covering_end)

-- ---- the points whose flags are set

keep-select : (q : ℕ → Bool) (ks : List ℕ) → keep q ks ks ≡ select q ks
unfolding select
keep-select q [] = refl
keep-select q (k ∷ ks) = rw (keep-select q ks)

pub points_covered : (xs : List ℕ) (p : ℕ) (ks fs : List ℕ) → length ks ≤ length fs → kept (sets fs 0 (flagged (covered_by xs p) ks)) ks ≡ covered_points xs p ks
points_covered xs p ks fs h = kept_sets (covered_by xs p) ks ks fs h (omega arith) ∙ keep-select (covered_by xs p) ks
