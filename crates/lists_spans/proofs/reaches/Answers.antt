-- The last of i points of a rising list is the greatest of them.
use Rattle.std.proofs.Common.{arith}
use Rattle.lists_marks.proofs.BelowLaws.{reaches_last}
use Rattle.lists_spans.proofs.reaches.Goals as goal

pub returns-else-i-eq0 : goal.returns-else-i-eq0
returns-else-i-eq0 c = rw c.from.ensures (reaches_last _ _ _ c.requires.rising (omega arith) c.requires.i_in_bounds)
