-- The walk in order says all, or the flags are cleared again and the walk down does.
use Rattle.format4_collect.proofs.CollectLaws.{walked, walked_clear}
use Rattle.format4_collect.proofs.mark_segments.Goals as goal

pub returns-then-mark_in_order : goal.returns-then-mark_in_order
returns-then-mark_in_order c = search walked

pub mark_down-requires-clause-cleared : goal.mark_down-requires-clause-cleared
mark_down-requires-clause-cleared c = search walked_clear

pub returns : goal.returns
returns c = search walked
