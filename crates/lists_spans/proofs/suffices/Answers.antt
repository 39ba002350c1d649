-- The first of the points behind i is the least of them.
use Rattle.std.proofs.Common.{◌∙◌}
use borrow.Author.Tests.{le-leb}
use Rattle.lists_marks.proofs.BelowLaws.{counted, suffices_end}
use Rattle.lists_spans.proofs.suffices.Goals as goal

pub returns-then-points-i : goal.returns-then-points-i
returns-then-points-i c = le-leb _ _ c.if-points-i.true ∙ suffices_end _ _ _ c.if-points-i.true

pub returns-else-points-i : goal.returns-else-points-i
returns-else-points-i c = rw c.from.ensures (search counted)
