use borrow.Author.Rules.{rules}
use Rattle.plan.specs.Sibling.{first_sibling}
use Rattle.plan_sibling.proofs.first_sibling.Goals as goal

pub returns : goal.returns
unfolding first_sibling
returns c = search rules
