-- Two looks tell it.
use Rattle.std.proofs.Common.{rules}
use Rattle.lists_marks.proofs.BelowLaws.{passing}
use Rattle.lists_spans.proofs.is_passed.Goals as goal

pub returns-then-points-near : goal.returns-then-points-near
returns-then-points-near c = search (rules, passing)

pub returns-then-reaches : goal.returns-then-reaches
returns-then-reaches c = search (rules, passing)

pub returns-else-reaches : goal.returns-else-reaches
returns-else-reaches c = search (rules, passing)
