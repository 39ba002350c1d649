use lib.ListN.{length}
use Prim.Native.Nat.{◌-◌}
use Rattle.format14_ranges.proofs.StreamLaws.{Taking}
use Rattle.format14_ranges.proofs.next_range.Given as goal

abbrev pub invariant-loop-next : goal.invariant-loop-next
invariant-loop-next l = Taking l.most l.kept l.flags l.i l.additional l.next

abbrev pub decreases-loop-next : goal.decreases-loop-next
decreases-loop-next l = length l.kept - l.next
