use borrow.Author.Rules.{rules}
use Rattle.plan.specs.CoveredFlags.{some_set}
use Rattle.plan_covered.proofs.some_set.Goals as goal

pub returns : goal.returns
unfolding some_set
returns c = search rules
