use Prim.Native.Nat.{◌-◌}
use lib.ListN.{length}
use Rattle.format4.proofs.CountLaws.{Counting}
use Rattle.format4_size.proofs.find_segcount.Given as goal

abbrev pub invariant-loop-i : goal.invariant-loop-i
invariant-loop-i l = Counting l.codes l.glyphs l.state l.n l.i

abbrev pub decreases-loop-i : goal.decreases-loop-i
decreases-loop-i l = length l.codes - l.i
