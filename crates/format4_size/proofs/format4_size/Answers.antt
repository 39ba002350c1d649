-- The count decides: no pairs, a length that fits, or one that does not.
use mathlib.Core.Path.{sym, ◌∙◌}
use borrow.Author.Tests.{eqb-true, eqb-false}
use Rattle.format4.proofs.CountLaws.{size_empty, size_fits, size_long}
use Rattle.format4_size.proofs.format4_size.Goals as goal

pub returns-then-is_empty : goal.returns-then-is_empty
returns-then-is_empty c = let e = eqb-true _ 0 (sym c.is_empty.ensures ∙ c.if-is_empty.true) in search size_empty

pub returns-then-length-le-FORMAT4_LENGTH_MAX : goal.returns-then-length-le-FORMAT4_LENGTH_MAX
returns-then-length-le-FORMAT4_LENGTH_MAX c = let e = eqb-false _ 0 (sym c.is_empty.ensures ∙ c.if-is_empty.false) in search size_fits

pub returns : goal.returns
returns c = let e = eqb-false _ 0 (sym c.is_empty.ensures ∙ c.if-is_empty.false) in search size_long
