-- Each of the segments committed is counted once.
use mathlib.Core.List.{[], ◌∷◌}
use Rattle.format4.proofs.CountLaws.{adds_none, adds_then, adds_below}
use Rattle.format4.proofs.RangeCounter.absorb.Goals as goal

pub write_one_range-requires-in-Two-2 : goal.write_one_range-requires-in-Two-2
write_one_range-requires-in-Two-2 c = search adds_below

pub returns-in-None : goal.returns-in-None
returns-in-None c = rw c.in-None.is (adds_none _)

pub returns-in-One : goal.returns-in-One
returns-in-One c = rw c.in-One.is c.write_one_range.ensures

pub returns-in-Two : goal.returns-in-Two
returns-in-Two c = rw c.in-Two.is (adds_then _ _ _ (_ ∷ []) (_ ∷ []) c.write_one_range-in-Two.ensures c.write_one_range-in-Two-2.ensures)
