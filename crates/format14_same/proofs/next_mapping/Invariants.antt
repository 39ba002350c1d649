use Rattle.format14_same.proofs.RowLaws.{Seeking}
use Rattle.format14_same.proofs.next_mapping.Given as goal

abbrev pub invariant-loop-j : goal.invariant-loop-j
invariant-loop-j l = Seeking l.s l.p l.m l.kept l.requested l.i l.j
