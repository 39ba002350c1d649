-- After i segments the flags say what they say; the walk ends where the definition's does, or is broken off.
use Rattle.format4_collect.proofs.CollectLaws.{collecting, walked}
use Rattle.format4_collect.proofs.mark_in_order.Goals as goal

pub loop-i-init : goal.loop-i-init
loop-i-init c = search collecting

pub returns-then-ends_walk : goal.returns-then-ends_walk
returns-then-ends_walk c = search walked

pub returns-then-not-in_order : goal.returns-then-not-in_order
returns-then-not-in_order c = search walked

pub loop-i-preserved : goal.loop-i-preserved
loop-i-preserved c = search collecting

pub returns : goal.returns
returns c = search walked
