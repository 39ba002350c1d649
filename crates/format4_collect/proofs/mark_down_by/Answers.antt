-- After the segments from i on, the flags and the segments before tell the whole.
use Rattle.format4_collect.proofs.DownLaws.{downing, downing_on}
use Rattle.format4_collect.proofs.mark_down_by.Goals as goal

pub loop-i-init : goal.loop-i-init
loop-i-init c = search downing

pub loop-i-preserved : goal.loop-i-preserved
loop-i-preserved c = search downing_on
