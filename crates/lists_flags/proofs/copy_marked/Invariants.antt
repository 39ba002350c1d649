use Rattle.lists_marks.proofs.MarksLaws.{Pairing}
use Rattle.lists_flags.proofs.copy_marked.Given as goal

abbrev pub invariant-loop-i : goal.invariant-loop-i
invariant-loop-i l = Pairing l.flags l.codes l.glyphs l.initial.tocodes l.initial.toglyphs l.tocodes l.toglyphs l.i l.k
