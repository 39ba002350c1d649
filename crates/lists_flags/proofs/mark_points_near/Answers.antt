-- The points of the stretch stand side by side, from the first not below start to the last not above end.
use Rattle.lists_marks.proofs.MarksLaws.{marked_filled}
use Rattle.lists_flags.proofs.mark_points_near.Goals as goal

pub returns-clause-flags_after : goal.returns-clause-flags_after
returns-clause-flags_after c = search marked_filled
