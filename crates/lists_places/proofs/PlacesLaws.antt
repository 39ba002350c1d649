-- One place is noted after the other, until all are; and what two looks tell a search.
use Prim.Native.Nat.{ℕ, ◌+◌, ◌*◌, ◌%◌, ◌^◌, ◌<◌, ◌≤◌}
use mathlib.Core.Path.{◌≡◌, sym, ◌∙◌}
use mathlib.Core.Bool.{Bool, true}
use mathlib.Core.List.{List}
use native.Mathlib.Omega.{arith}
use lib.Dec.{leb}
use lib.ListN.{length, set}
use borrow.Author.Tests.{leb-true}
use Rattle.laws.specs.Choice.{both}
use Rattle.laws.specs.Select.{each}
use Rattle.laws.proofs.ChoiceLaws.{both_left, both_right}
use Rattle.laws.proofs.LengthLaws.{length-each}
use Rattle.laws.proofs.StoringLaws.{Storing, storing_start, storing_on, storing_done, sets_whole}
use Rattle.lists_marks.specs.Marks.{below, Bound, Halving}
use Rattle.lists_places.specs.Places.{place_of, places_of}

module _ (ps xs₀ xs : List ℕ) (b : ℕ) (l : Storing (place_of ps) (length xs₀) xs₀ xs b) where
  pub noting_on : (i : ℕ) → b < length xs₀ → Bound ps (128 * b) i → Storing (place_of ps) (length xs₀) xs₀ (set xs b (i % 256 ^ 4)) (b + 1)
  unfolding place_of
  noting_on i h e = storing_on l (i % 256 ^ 4) (omega (arith, l.same)) (rw e.is)

  pub noting_done : length xs₀ ≤ b → xs ≡ places_of ps (length xs₀)
  unfolding places_of
  noting_done h = storing_done l (omega (arith, l.same)) ∙ sets_whole xs₀ (each (place_of ps) (length xs₀) 0) (length-each (place_of ps) (length xs₀) 0)

pub ruleset noting = (storing_start, noting_on, noting_done)

-- what two looks tell, as halving asks for it
pub within_halving : (ps : List ℕ) (c low high : ℕ) (t : Bool) → t ≡ both (leb low (below ps c)) (leb (below ps c) high) → t ≡ true → high ≤ length ps → Halving ps c low high
within_halving ps c low high t q e h =
    let b : both (leb low (below ps c)) (leb (below ps c) high) ≡ true = sym q ∙ e in
    record {
      least = leb-true low (below ps c) (both_left (leb low (below ps c)) (leb (below ps c) high) b);
      most = leb-true (below ps c) high (both_right (leb low (below ps c)) (leb (below ps c) high) b);
      within = h;
    }
