use borrow.Author.Rules.{rules}
use Rattle.plan.specs.Outcomes.{server}
use Rattle.plan_outcomes.proofs.server.Goals as goal

pub returns : goal.returns
unfolding server
returns c = search rules
