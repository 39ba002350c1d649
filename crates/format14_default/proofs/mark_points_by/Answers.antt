-- The points of the stretch stand side by side, from the first not below start to the last not above end.
use Rattle.lists_marks.proofs.MarksLaws.{marked_filled}
use Rattle.format14_default.proofs.mark_points_by.Goals as goal

pub returns : goal.returns
returns c = search marked_filled
