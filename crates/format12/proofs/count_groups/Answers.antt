-- What was counted and the groups of the pairs ahead are together the groups of the definition.
use borrow.Author.Rules.{rules}
use Rattle.format12.proofs.WalkLaws.{counting}
use Rattle.format12.proofs.count_groups.Goals as goal

pub loop-i-init : goal.loop-i-init
loop-i-init c = search (rules, counting)

pub loop-i-preserved : goal.loop-i-preserved
loop-i-preserved c = search (rules, counting)

pub returns : goal.returns
returns c = search (rules, counting)
