use Rattle.plan.proofs.ServesLaws.{serving}
use Rattle.plan_outcomes.proofs.serves.Goals as goal

pub returns-then-is_made : goal.returns-then-is_made
returns-then-is_made c = search serving

pub returns-else-is_made : goal.returns-else-is_made
returns-else-is_made c = search serving
