use Prim.Native.Nat.{◌-◌}
use lib.ListN.{length}
use Rattle.format14_ranges.proofs.StreamLaws.{Counted, Summed}
use Rattle.format14_default.proofs.measure_ranges.Given as goal

abbrev pub invariant-loop-i : goal.invariant-loop-i
invariant-loop-i l = Counted l.most l.kept l.flags l.i l.n × Summed l.most l.kept l.flags l.i l.sum

abbrev pub decreases-loop-i : goal.decreases-loop-i
decreases-loop-i l = length l.kept - l.i
