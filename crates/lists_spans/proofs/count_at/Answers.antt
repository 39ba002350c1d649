-- The count is told by two looks, or searched.
use Rattle.lists_marks.proofs.BelowLaws.{counted}
use Rattle.lists_spans.proofs.count_at.Goals as goal

pub returns-then-is_count : goal.returns-then-is_count
returns-then-is_count c = search counted
