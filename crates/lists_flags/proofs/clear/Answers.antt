use Rattle.lists_marks.proofs.MarksLaws.{front_filled}
use Rattle.lists_flags.proofs.clear.Goals as goal

pub returns : goal.returns
returns c = front_filled _ _ _ _ c.requires (c.fill.ensures.after (λ y e. e))
