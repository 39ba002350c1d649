-- The code's test is the definition's; the product fits since the points are few.
use native.Mathlib.Omega.{arith}
use Rattle.format14_ranges.proofs.BitsLaws.{product_small, most_ranges, most_single}
use borrow.Author.Rules.{rules}
use Rattle.format14_ranges.proofs.most_additional.Goals as goal

pub overflow_mul-kept : goal.overflow_mul-kept
overflow_mul-kept c = omega (arith, product_small _ _ c.requires c.bit_length.ensures.1)

pub returns-then-kept-bit_length : goal.returns-then-kept-bit_length
returns-then-kept-bit_length c = search (rules, most_ranges)

pub returns : goal.returns
returns c = search (rules, most_single)
