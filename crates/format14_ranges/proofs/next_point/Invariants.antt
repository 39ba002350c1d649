use Rattle.format14_ranges.proofs.StreamLaws.{Seeking}
use Rattle.format14_ranges.proofs.next_point.Given as goal

abbrev pub invariant-loop-j : goal.invariant-loop-j
invariant-loop-j l = Seeking l.kept l.flags l.i l.j
