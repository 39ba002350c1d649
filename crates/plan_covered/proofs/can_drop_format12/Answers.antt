use borrow.Author.Rules.{rules}
use Rattle.plan.specs.Covered.{covered}
use Rattle.plan_covered.proofs.can_drop_format12.Goals as goal

pub returns-then-leads_to_format : goal.returns-then-leads_to_format
unfolding covered
returns-then-leads_to_format c = search rules

pub returns-else-leads_to_format : goal.returns-else-leads_to_format
unfolding covered
returns-else-leads_to_format c = search rules
