use Rattle.plan.proofs.TwinsLaws.{twin_tests}
use Rattle.plan_outcomes.proofs.is_twin.Goals as goal

pub returns-then-is_pair : goal.returns-then-is_pair
returns-then-is_pair c = search twin_tests

pub returns-else-is_pair : goal.returns-else-is_pair
returns-else-is_pair c = search twin_tests
