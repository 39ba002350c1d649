-- The tables after t are asked one by one.
use borrow.Author.Rules.{rules}
use native.Mathlib.Omega.{arith}
use Rattle.laws.proofs.SearchLaws.{seeking}
use Rattle.format14_places.proofs.EqualLaws.{later_equals}
use Rattle.format14_places.proofs.later_equal.Goals as goal

pub loop-j-init : goal.loop-j-init
loop-j-init c = (search (rules, seeking), search rules)

pub returns-then-equal_tables : goal.returns-then-equal_tables
returns-then-equal_tables c = search later_equals

pub loop-j-preserved : goal.loop-j-preserved
loop-j-preserved c = (search seeking, omega arith)

pub returns : goal.returns
returns c = search later_equals
