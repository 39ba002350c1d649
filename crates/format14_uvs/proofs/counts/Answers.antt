-- Each test of the code is one of the definition's, in the same order; the product fits since four bytes tell the count.
use borrow.Author.Rules.{rules}
use native.Mathlib.Omega.{arith}
use Rattle.format14_uvs.proofs.TablesLaws.{counts_rules, product_below}
use Rattle.format14_uvs.proofs.counts.Goals as goal

pub returns-then-off-eq0 : goal.returns-then-off-eq0
returns-then-off-eq0 c = search (rules, counts_rules)

pub returns-then-len-off : goal.returns-then-len-off
returns-then-len-off c = search (rules, counts_rules)

pub overflow_mul-result : goal.overflow_mul-result
overflow_mul-result c = omega (arith, product_below _ _ c.requires.1 c.u32_at-records.ensures.below)

pub overflow_add-result-2 : goal.overflow_add-result-2
overflow_add-result-2 c = omega (arith, product_below _ _ c.requires.1 c.u32_at-records.ensures.below)

pub returns : goal.returns
returns c = search (rules, counts_rules)
