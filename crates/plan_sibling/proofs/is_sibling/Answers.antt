use Rattle.plan_sibling.proofs.SiblingLaws.{sibling}
use Rattle.plan_sibling.proofs.is_sibling.Goals as goal

pub returns-then-sibling_pair : goal.returns-then-sibling_pair
returns-then-sibling_pair c = search sibling

pub returns-else-sibling_pair : goal.returns-else-sibling_pair
returns-else-sibling_pair c = search sibling
