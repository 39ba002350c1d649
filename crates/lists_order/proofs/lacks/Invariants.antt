use lib.ListN.{length}
use Rattle.laws.proofs.SearchLaws.{Asking}
use Rattle.lists_order.proofs.PointOrderLaws.{is_missing}
use Rattle.lists_order.proofs.lacks.Given as goal

abbrev pub invariant-loop-c : goal.invariant-loop-c
invariant-loop-c l = Asking (is_missing l.kept l.codes) (length l.codes) l.c-index
