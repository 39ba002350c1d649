-- One segment more, or none.
use Rattle.format4.proofs.CountLaws.{adds_none}
use Rattle.format4.proofs.RangeCounter.close.Goals as goal

pub returns-then-close : goal.returns-then-close
returns-then-close c = rw c.if-close.true c.write_one_range.ensures

pub returns : goal.returns
returns c = rw c.if-close.false (adds_none _)
