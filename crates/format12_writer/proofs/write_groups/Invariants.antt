use Prim.Native.Nat.{◌-◌}
use lib.ListN.{length}
use Rattle.format12_writer.proofs.WritingLaws.{Writing}
use Rattle.format12_writer.proofs.write_groups.Given as goal

abbrev pub invariant-loop-i : goal.invariant-loop-i
invariant-loop-i l = Writing l.codes l.glyphs l.initial.out l.at l.out l.to l.i

abbrev pub decreases-loop-i : goal.decreases-loop-i
decreases-loop-i l = length l.codes - l.i
