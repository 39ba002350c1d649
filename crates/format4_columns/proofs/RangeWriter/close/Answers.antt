-- One segment more, or none.
use mathlib.Core.Path.{refl}
use Rattle.format4_columns.specs.Places.{put_all}
use Rattle.format4_columns.proofs.RangeWriter.close.Goals as goal

pub returns-then-close : goal.returns-then-close
unfolding put_all
returns-then-close c = rw c.if-close.true c.write_one_range.ensures.1

pub returns-else-close : goal.returns-else-close
unfolding put_all
returns-else-close c = rw c.if-close.false refl
