use Prim.Native.Nat.{◌-◌}
use lib.ListN.{length}
use Rattle.format12.proofs.WalkLaws.{Counting}
use Rattle.format12.proofs.count_groups.Given as goal

abbrev pub invariant-loop-i : goal.invariant-loop-i
invariant-loop-i l = Counting l.codes l.glyphs l.n l.i

abbrev pub decreases-loop-i : goal.decreases-loop-i
decreases-loop-i l = length l.codes - l.i
