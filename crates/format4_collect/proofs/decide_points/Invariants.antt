use Rattle.format4_segments.specs.Asked.{says_of}
use Rattle.format4_collect.specs.Downward.{Decided}
use Rattle.format4_collect.proofs.decide_points.Given as goal

abbrev pub invariant-loop-j : goal.invariant-loop-j
invariant-loop-j l = Decided (says_of l.segment) l.points l.initial.flags l.flags l.fn.span.low l.j
