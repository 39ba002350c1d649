use Rattle.lists_marks.proofs.MarksLaws.{Painting}
use Rattle.format4_segments.specs.Asked.{says_of}
use Rattle.format4_collect.proofs.mark_segment.Given as goal

abbrev pub invariant-loop-j : goal.invariant-loop-j
invariant-loop-j l = Painting (says_of l.segment) l.points l.initial.flags l.flags l.span.low l.span.high l.j
