use Prim.Native.Nat.{◌-◌}
use lib.ListN.{length}
use Rattle.format14_ranges.proofs.StreamLaws.{Counted, Written}
use Rattle.format14_default.proofs.copy_ranges.Given as goal

abbrev pub invariant-loop-i : goal.invariant-loop-i
invariant-loop-i l = Counted l.most l.kept l.flags l.i l.n × Written l.most l.kept l.flags l.initial.out l.to l.out l.i l.n

abbrev pub decreases-loop-i : goal.decreases-loop-i
decreases-loop-i l = length l.kept - l.i
