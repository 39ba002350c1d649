-- Used if one of the two distances is not 0.
use borrow.Author.Tests.{lt-ltb, le-ltb}
use Rattle.format14.specs.SelectorRecords.{used_at}
use Rattle.format14_selectors.proofs.is_used.Goals as goal

pub returns-then-ends-k-gt0 : goal.returns-then-ends-k-gt0
unfolding used_at
returns-then-ends-k-gt0 c = rw (lt-ltb 0 _ c.if-ends-k-gt0.true)

pub returns-else-ends-k-gt0 : goal.returns-else-ends-k-gt0
unfolding used_at
returns-else-ends-k-gt0 c = rw (le-ltb 0 _ c.if-ends-k-gt0.false)
