-- None, all, or what a search finds.
use Rattle.lists_marks.proofs.BelowLaws.{count_is}
use Rattle.lists_spans.proofs.count_upto.Goals as goal

pub returns-then-is_count : goal.returns-then-is_count
returns-then-is_count c = rw c.from-past.ensures at (count_is _ _ _ _ c.is_count.ensures c.if-is_count.true)

pub returns-then-is_count-2 : goal.returns-then-is_count-2
returns-then-is_count-2 c = rw c.from-past.ensures at (count_is _ _ _ _ c.is_count-then-start-end.ensures c.if-is_count-2.true)
