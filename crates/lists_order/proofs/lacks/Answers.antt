-- Each listed point is asked for.
use borrow.Author.Rules.{rules}
use Rattle.laws.proofs.SearchLaws.{asking, asking_on}
use Rattle.lists_order.proofs.PointOrderLaws.{lacks_told}
use Rattle.lists_order.proofs.lacks.Goals as goal

pub loop-c-init : goal.loop-c-init
loop-c-init c = search asking

pub returns-then-is_missing : goal.returns-then-is_missing
returns-then-is_missing c = lacks_told _ _ _ (search asking)

pub loop-c-preserved : goal.loop-c-preserved
loop-c-preserved c = asking_on _ _ _ _ (search rules) (search rules) c.is_missing.ensures (search rules)

pub returns : goal.returns
returns c = lacks_told _ _ _ (search asking)
