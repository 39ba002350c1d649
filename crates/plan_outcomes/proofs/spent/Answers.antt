use borrow.Author.Rules.{rules}
use Rattle.plan.specs.Twins.{spent}
use Rattle.plan_outcomes.proofs.spent.Goals as goal

pub returns : goal.returns
unfolding spent
returns c = search rules
