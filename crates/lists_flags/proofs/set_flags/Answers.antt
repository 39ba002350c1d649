-- The first flag is set by itself, and the rest by the loop.
use Rattle.lists_marks.proofs.MarksLaws.{filled}
use Rattle.lists_flags.proofs.set_flags.Goals as goal

pub returns-then-high-low : goal.returns-then-high-low
returns-then-high-low c = search filled

pub returns-then-low-high : goal.returns-then-low-high
returns-then-low-high c = search filled

pub returns-else-low-high : goal.returns-else-low-high
returns-else-low-high c = search filled
