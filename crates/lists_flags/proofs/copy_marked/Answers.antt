-- What is left of the pairs, copied from k, gives the whole.
use Rattle.lists_marks.proofs.MarksLaws.{pairing}
use Rattle.lists_flags.proofs.copy_marked.Goals as goal
use Rattle.lists_flags.proofs.copy_marked.Goals.{then-flags-i-ne0, else-flags-i-ne0}

pub loop-i-init : goal.loop-i-init
loop-i-init c = search pairing

pub loop-i-preserved : goal.loop-i-preserved
loop-i-preserved c =
    elim c.if-flags-i-ne0.branch [
      | then-flags-i-ne0 w ↦ rw (w.tocodes-is, w.toglyphs-is, w.k-is) (search pairing)
      | else-flags-i-ne0 w ↦ rw (w.tocodes-is, w.toglyphs-is, w.k-is) (search pairing)
    ]

pub returns-clause-value : goal.returns-clause-value
returns-clause-value c = search pairing

pub returns-clause-tocodes_after : goal.returns-clause-tocodes_after
returns-clause-tocodes_after c = search pairing

pub returns-clause-toglyphs_after : goal.returns-clause-toglyphs_after
returns-clause-toglyphs_after c = search pairing
