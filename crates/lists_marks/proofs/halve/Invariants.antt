use Prim.Native.Nat.{◌-◌}
use Rattle.lists_marks.specs.Marks.{Halving}
use Rattle.lists_marks.proofs.halve.Given as goal

abbrev pub invariant-loop-low : goal.invariant-loop-low
invariant-loop-low l = Halving l.points l.c l.low l.high

abbrev pub decreases-loop-low : goal.decreases-loop-low
decreases-loop-low l = l.high - l.low
