use Rattle.format4_segments.specs.Asked.{says_of}
use Rattle.format4_collect.specs.Downward.{Decided, NotedBlocks}
use Prim.Native.Nat.{◌-◌, ◌≤◌}
use Rattle.format4_collect.proofs.decide_blocks.Given as goal

abbrev pub invariant-loop-j : goal.invariant-loop-j
invariant-loop-j l = Decided (says_of l.segment) l.points l.initial.flags l.flags l.span.low l.j × NotedBlocks l.noted l.flags × (l.j ≤ l.span.high)

abbrev pub decreases-loop-j : goal.decreases-loop-j
decreases-loop-j l = l.span.high - l.j
