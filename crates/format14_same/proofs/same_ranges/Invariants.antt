use lib.ListN.{length}
use Prim.Native.Nat.{◌-◌}
use Rattle.format14_same.proofs.StreamsLaws.{Pairing}
use Rattle.format14_same.proofs.same_ranges.Given as goal

abbrev pub invariant-loop-i : goal.invariant-loop-i
invariant-loop-i l = Pairing l.kept l.first l.most l.second l.limit l.i l.j

abbrev pub decreases-loop-i : goal.decreases-loop-i
decreases-loop-i l = length l.kept - l.i
