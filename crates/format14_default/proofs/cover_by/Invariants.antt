use Rattle.format14.proofs.CoverLaws.{Covering}
use Rattle.format14_default.proofs.cover_by.Given as goal

abbrev pub invariant-loop-i : goal.invariant-loop-i
invariant-loop-i l = Covering l.s l.p l.kept l.i-end l.initial.flags l.flags l.i
