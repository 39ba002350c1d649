-- The tests are the definition's own.
use Rattle.format4_collect.specs.Downward.{decided}
use Rattle.laws.proofs.ChoiceLaws.{tests}
use Rattle.format4_collect.proofs.decided_flag.Goals as goal

pub returns-then-flag-ne0 : goal.returns-then-flag-ne0
unfolding decided
returns-then-flag-ne0 c = search tests

pub returns-then-mapped : goal.returns-then-mapped
unfolding decided
returns-then-mapped c = search (tests, c.if-mapped.true)

pub returns-else-mapped : goal.returns-else-mapped
unfolding decided
returns-else-mapped c = search (tests, c.if-mapped.false)
