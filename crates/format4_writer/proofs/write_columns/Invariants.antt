use Rattle.format4_columns.proofs.WalkLaws.{Writing}
use lib.ListN.{length}
use Prim.Native.Nat.{◌-◌}
use Rattle.format4_writer.proofs.write_columns.Given as goal

abbrev pub invariant-loop-i : goal.invariant-loop-i
invariant-loop-i l = Writing l.codes l.glyphs l.initial.out l.initial.w l.state l.out l.w l.i

abbrev pub decreases-loop-i : goal.decreases-loop-i
decreases-loop-i l = length l.codes - l.i
