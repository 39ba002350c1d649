-- After g groups the flags say what those groups map.
use borrow.Author.Rules.{rules}
use Rattle.format12_collect.proofs.CollectLaws.{marking}
use Rattle.format12_collect.proofs.mark_groups_by.Goals as goal

pub loop-g-init : goal.loop-g-init
loop-g-init c = (search marking, search rules)

pub loop-g-preserved : goal.loop-g-preserved
loop-g-preserved c = (search marking, search rules)

pub returns : goal.returns
returns c = search marking
