-- What is left to set, set from here, gives the whole.
use Rattle.lists_marks.proofs.MarksLaws.{filling}
use Rattle.lists_flags.proofs.set_all.Goals as goal

pub loop-i-init : goal.loop-i-init
loop-i-init c = search filling

pub loop-i-preserved : goal.loop-i-preserved
loop-i-preserved c = search filling

pub returns : goal.returns
returns c = search filling
