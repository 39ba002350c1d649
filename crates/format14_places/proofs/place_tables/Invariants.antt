use Prim.Native.Nat.{◌*◌}
use mathlib.Core.Path.{◌≡◌}
use lib.ListN.{length}
use Rattle.format14_places.proofs.PlacingLaws.{Placing}
use Rattle.format14.specs.Lent.{lent_job14}
use Rattle.format14.specs.Selectors.{selector_records}
use Rattle.format14.specs.ByNumber.{slot}
use Rattle.format14_places.proofs.place_tables.Given as goal

abbrev pub invariant-loop-k : goal.invariant-loop-k
invariant-loop-k l = let g = lent_job14 l.job in
    Placing (slot g) (2 * selector_records g) l.k l.ends l.tail × ((length l.flags ≡ length l.initial.flags) × (length l.others ≡ length l.initial.others))
