use Rattle.std.proofs.Common.{arith}
use Rattle.laws.proofs.ChoiceLaws.{tests}
use Rattle.lists_runs.specs.Runs.{breaks}
use Rattle.lists_runs.proofs.breaks.Goals as goal

pub returns-then-from : goal.returns-then-from
unfolding breaks
returns-then-from c = grind (arith, tests)

pub returns-else-from : goal.returns-else-from
unfolding breaks
returns-else-from c = grind (arith, tests)
