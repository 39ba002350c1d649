use Rattle.plan.proofs.TwinsLaws.{twin_tests}
use Rattle.plan_outcomes.proofs.is_spent.Goals as goal

pub returns-then-came_to_nothing : goal.returns-then-came_to_nothing
returns-then-came_to_nothing c = search twin_tests

pub returns-else-came_to_nothing : goal.returns-else-came_to_nothing
returns-else-came_to_nothing c = search twin_tests
