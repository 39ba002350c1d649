use borrow.Author.Rules.{rules}
use Rattle.plan.specs.CoveredFlags.{flags_differ}
use Rattle.plan_covered.proofs.flags_differ.Goals as goal

pub returns : goal.returns
unfolding flags_differ
returns c = search rules
