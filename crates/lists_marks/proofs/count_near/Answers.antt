-- A point below c shows that near is not too high; else the whole list is halved.
use native.Mathlib.Omega.{arith}
use Rattle.lists_marks.proofs.BelowLaws.{at_least_past}
use Rattle.lists_marks.proofs.count_near.Goals as goal

pub count_from-requires-then-from-c-clause-at_least : goal.count_from-requires-then-from-c-clause-at_least
count_from-requires-then-from-c-clause-at_least c = at_least_past _ _ _ c.requires c.if-near-eq0.false (omega arith) (omega arith)
