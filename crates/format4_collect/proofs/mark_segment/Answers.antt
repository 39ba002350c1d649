-- The points that the segment holds stand side by side, and each gets the segment's word.
use Rattle.lists_marks.proofs.BelowLaws.{inside}
use Rattle.lists_marks.proofs.MarksLaws.{painting, painted-passed}
use Rattle.format4_collect.proofs.mark_segment.Goals as goal

pub returns-then-is_passed : goal.returns-then-is_passed
returns-then-is_passed c = search painted-passed

pub maps-requires : goal.maps-requires
maps-requires c = search inside

pub loop-j-preserved : goal.loop-j-preserved
loop-j-preserved c = search painting

pub returns : goal.returns
returns c = search painting
