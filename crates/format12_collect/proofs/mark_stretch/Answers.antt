-- The points of the stretch stand side by side, or there are none.
use Rattle.lists_marks.proofs.MarksLaws.{marked_filled, painted-passed}
use Rattle.format12_collect.proofs.CollectLaws.{marked_nothing}
use Rattle.format12_collect.proofs.mark_stretch.Goals as goal

pub returns-in_default-clause-flags_after : goal.returns-in_default-clause-flags_after
returns-in_default-clause-flags_after c = rw c.in_default.is (marked_nothing _ _)

pub returns-then-is_passed-clause-flags_after : goal.returns-then-is_passed-clause-flags_after
returns-then-is_passed-clause-flags_after c = rw c.in-Some.is (search painted-passed)

pub returns-clause-flags_after : goal.returns-clause-flags_after
returns-clause-flags_after c = rw c.in-Some.is (search marked_filled)
