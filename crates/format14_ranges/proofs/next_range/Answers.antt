-- A point that follows the last makes the record longer; a gap, the limit or the end closes it.
use Rattle.format14_ranges.proofs.StreamLaws.{taking}
use Rattle.format14_ranges.proofs.next_range.Goals as goal

pub loop-next-init : goal.loop-next-init
loop-next-init c = search taking

pub returns-else-additional-most : goal.returns-else-additional-most
returns-else-additional-most c = search taking

pub loop-next-preserved : goal.loop-next-preserved
loop-next-preserved c = search taking

pub returns-else-follows : goal.returns-else-follows
returns-else-follows c = search taking

pub returns-after-loop-next : goal.returns-after-loop-next
returns-after-loop-next c = search taking
