-- In a rising list c stands behind all that are below it, or nowhere.
use mathlib.Core.Path.{◌∙◌}
use borrow.Author.Tests.{le-ltb}
use Rattle.lists_marks.proofs.BelowLaws.{halving}
use Rattle.format14_staying.proofs.stands_at.Goals as goal

pub returns-then-i-kept : goal.returns-then-i-kept
returns-then-i-kept c = search halving

pub returns-else-i-kept : goal.returns-else-i-kept
returns-else-i-kept c = le-ltb _ _ c.if-i-kept.false ∙ search halving
