use borrow.Author.Rules.{rules}
use Rattle.plan.specs.Twins.{twin}
use Rattle.plan_outcomes.proofs.twin.Goals as goal

pub returns : goal.returns
unfolding twin
returns c = search rules
