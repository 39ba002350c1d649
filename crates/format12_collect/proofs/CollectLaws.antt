-- A walk over the groups of a format 12 subtable that marks what each maps.
use Prim.Native.Nat.{ℕ, ◌+◌, ◌<◌, ◌≤◌}
use mathlib.Core.Path.{◌≡◌, refl, sym}
use mathlib.Core.List.{List}
use mathlib.Core.Bool.{true}
use native.Mathlib.Numerals.{add-one}
use native.Mathlib.Omega.{arith}
use Rattle.std.specs.Prelude.{Option, None}
use lib.ListN.{length}
use lib.Seq.{sets}
use Rattle.laws.specs.Choice.{pick}
use Rattle.laws.specs.Search.{some}
use Rattle.laws.proofs.SomeLaws.{some_snoc}
use Rattle.lists_marks.specs.Marks.{flagged, marked, Flags, Cleared}
use Rattle.lists_marks.proofs.MarksLaws.{Saying, saying_none, saying_on, painted_none}
use Rattle.format12_mapped.specs.declared.Stretch.{Stretch}
use Rattle.format12_mapped.specs.Mapped12.{group12, stretch_holds, among12, maps12}

-- where there is no stretch there is nothing to mark
pub marked_nothing : (ps fs : List ℕ) → fs ≡ marked (stretch_holds None) ps fs
marked_nothing ps fs = sym (painted_none (stretch_holds None) (λ c. true) (λ c. refl) ps fs)

module _ (xs : List ℕ) (at groups n : ℕ) where
  among_on : (g c : ℕ) (t : Option Stretch) → t ≡ group12 xs at n g → pick (stretch_holds t c) true (among12 xs at n g c) ≡ among12 xs at n (g + 1) c
  among_on g c t e = rw (add-one g, e) (sym (some_snoc (λ i. stretch_holds (group12 xs at n i) c) g))

  -- the flags say what the first g groups map
  pub record Marking (ps fs₀ fs : List ℕ) (g : ℕ) : Type 0 where
    pub within : g ≤ groups
    pub say : Saying (among12 xs at n g) ps fs₀ fs

  pub marking_start : (ps fs₀ : List ℕ) → Cleared (length ps) fs₀ → Marking ps fs₀ fs₀ 0
  unfolding some
  marking_start ps fs₀ e = record { within = omega arith; say = saying_none e }

  module _ (ps fs₀ fs : List ℕ) (g : ℕ) where
    pub marking_on : (t : Option Stretch) (fs' : List ℕ) → Marking ps fs₀ fs g → g < groups → Flags ps fs₀ → t ≡ group12 xs at n g
        → fs' ≡ marked (stretch_holds t) ps fs → Marking ps fs₀ fs' (g + 1)
    marking_on t fs' m h k e q =
        record {
          within = omega arith;
          say = saying_on (stretch_holds t) (λ c. true) (among12 xs at n (g + 1)) m.say k q (λ c. among_on g c t e);
        }

    pub marking_end : Marking ps fs₀ fs g → groups ≤ g → fs ≡ sets fs₀ 0 (flagged (maps12 xs at groups n) ps)
    unfolding maps12
    marking_end m h =
        let e : g ≡ groups = omega (arith, m.within) in
        rw (← e) m.say.is

pub ruleset marking = (marking_start, marking_on, marking_end)
