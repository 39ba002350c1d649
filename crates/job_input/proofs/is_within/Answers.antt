-- The two tests are the definition's.
use Rattle.laws.proofs.ChoiceLaws.{tests}
use Rattle.job_input.specs.Job.{within}
use Rattle.job_input.proofs.is_within.Goals as goal

pub returns-then-n-width-eq0 : goal.returns-then-n-width-eq0
unfolding within
returns-then-n-width-eq0 c = search tests

pub returns-else-n-width-eq0 : goal.returns-else-n-width-eq0
unfolding within
returns-else-n-width-eq0 c = search tests
