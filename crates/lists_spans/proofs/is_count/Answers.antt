-- The two looks tell it both ways.
use Rattle.std.proofs.Common.{rules}
use Rattle.lists_marks.proofs.BelowLaws.{counted}
use Rattle.lists_spans.proofs.is_count.Goals as goal

pub returns-then-points-i : goal.returns-then-points-i
returns-then-points-i c = search (rules, counted)

pub returns-then-reaches : goal.returns-then-reaches
returns-then-reaches c = search (rules, counted)

pub returns-else-reaches : goal.returns-else-reaches
returns-else-reaches c = search (rules, counted)
