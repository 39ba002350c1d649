use Rattle.lists_marks.proofs.LeadingLaws.{fronting}
use Rattle.lists_flags.proofs.front.Goals as goal

pub returns-then-first_set-n-clause-value : goal.returns-then-first_set-n-clause-value
returns-then-first_set-n-clause-value c = search fronting

pub returns-clause-value : goal.returns-clause-value
returns-clause-value c = search fronting
