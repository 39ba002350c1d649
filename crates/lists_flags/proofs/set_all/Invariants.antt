use Rattle.lists_marks.proofs.MarksLaws.{Filling}
use Rattle.lists_flags.proofs.set_all.Given as goal

abbrev pub invariant-loop-i : goal.invariant-loop-i
invariant-loop-i l = Filling 1 l.initial.flags l.flags l.low l.high l.i
