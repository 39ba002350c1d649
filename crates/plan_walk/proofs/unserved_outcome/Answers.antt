use Rattle.plan.proofs.TwinLaws.{twins}
use Rattle.plan.proofs.NotesLaws.{staying}
use Rattle.plan.specs.Notes.{outcomes_in}
use Rattle.plan_walk.proofs.unserved_outcome.Goals as goal

pub returns-then-r-k : goal.returns-then-r-k
unfolding outcomes_in
returns-then-r-k c = record { value = (search twins, search twins); leaves = search staying; turned = search staying }
