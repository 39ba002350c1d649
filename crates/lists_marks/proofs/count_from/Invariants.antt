use Prim.Native.Nat.{◌-◌, ◌+◌, ◌*◌, ◌≤◌}
use lib.ListN.{length}
use Rattle.lists_marks.specs.Marks.{AtLeast}
use Rattle.lists_marks.proofs.count_from.Given as goal

abbrev pub invariant-loop-step : goal.invariant-loop-step
invariant-loop-step l = AtLeast l.points l.c l.low × (1 ≤ l.step) × (l.step ≤ 2 * length l.points + 1)

abbrev pub decreases-loop-step : goal.decreases-loop-step
decreases-loop-step l = length l.points - l.low
