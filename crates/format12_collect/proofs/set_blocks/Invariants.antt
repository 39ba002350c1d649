use Prim.Native.Nat.{◌-◌, ◌≤◌}
use Rattle.lists_marks.proofs.MarksLaws.{Filling}
use Rattle.format12_collect.specs.Blocks.{Full}
use Rattle.format12_collect.proofs.set_blocks.Given as goal

abbrev pub invariant-loop-i : goal.invariant-loop-i
invariant-loop-i l = Filling 1 l.initial.flags l.flags l.low l.high l.i × Full l.full l.flags × (l.i ≤ l.high)

abbrev pub decreases-loop-i : goal.decreases-loop-i
decreases-loop-i l = l.high - l.i
