-- What is listed whole is counted by its first and its last.
use native.Mathlib.Omega.{arith}
use Rattle.lists_marks.proofs.BelowLaws.{listing, listed_says}
use Rattle.lists_spans.proofs.span_near.Goals as goal

pub overflow_sub-high : goal.overflow_sub-high
overflow_sub-high c = omega (arith, listed_says _ _ _ _ _ c.is_listed.ensures c.if-is_listed.true)

pub overflow_add-high : goal.overflow_add-high
overflow_add-high c = omega (arith, listed_says _ _ _ _ _ c.is_listed.ensures c.if-is_listed.true)

pub overflow_add-high-then-is_listed : goal.overflow_add-high-then-is_listed
overflow_add-high-then-is_listed c = omega (arith, listed_says _ _ _ _ _ c.is_listed.ensures c.if-is_listed.true)

pub returns-then-is_listed-clause-bound : goal.returns-then-is_listed-clause-bound
returns-then-is_listed-clause-bound c = search listing

pub returns-then-is_listed-clause-bound_2 : goal.returns-then-is_listed-clause-bound_2
returns-then-is_listed-clause-bound_2 c = search listing
