use Rattle.format4_collect.proofs.DownLaws.{Downing}
use Rattle.format4_collect.proofs.mark_down_by.Given as goal

abbrev pub invariant-loop-i : goal.invariant-loop-i
invariant-loop-i l = Downing l.subtable l.noted l.points l.initial.flags l.flags l.i
