use Rattle.format4_collect.proofs.CollectLaws.{Collecting}
use Rattle.format4_collect.proofs.mark_in_order.Given as goal

abbrev pub invariant-loop-i : goal.invariant-loop-i
invariant-loop-i l = Collecting l.subtable l.points l.initial.flags l.flags l.i
