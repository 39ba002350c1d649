-- While the records are equal, what is left tells what the whole tells.
use Rattle.format14_same.proofs.RowLaws.{pairing}
use Rattle.format14_same.proofs.same_rows.Goals as goal

pub loop-one-init : goal.loop-one-init
loop-one-init c = search pairing

pub returns-then-n-other : goal.returns-then-n-other
returns-then-n-other c = search pairing

pub loop-one-preserved : goal.loop-one-preserved
loop-one-preserved c = search pairing

pub returns-then-not-same_mapping : goal.returns-then-not-same_mapping
returns-then-not-same_mapping c = search pairing

pub returns : goal.returns
returns c = search pairing
