use Rattle.plan.proofs.FreshLaws.{freshly}
use Rattle.plan.proofs.RecordNotesLaws.{turning}
use Rattle.plan.proofs.NotesLaws.{leaving}
use native.Mathlib.Omega.{arith}
use borrow.Author.Rules.{rules}
use Rattle.plan_walk.proofs.fresh.Goals as goal

pub fresh4-requires-clause-leads : goal.fresh4-requires-clause-leads
fresh4-requires-clause-leads c = search freshly

pub fresh14-requires-clause-readable : goal.fresh14-requires-clause-readable
fresh14-requires-clause-readable c = search freshly

pub returns-in-Format4 : goal.returns-in-Format4
returns-in-Format4 c = record { value = (search freshly, search rules); leaves = search leaving; turned = search turning }

pub returns-in-Format12 : goal.returns-in-Format12
returns-in-Format12 c = record { value = (search freshly, search rules); leaves = search leaving; turned = search turning }

pub returns-in-Format14 : goal.returns-in-Format14
returns-in-Format14 c = record { value = (search freshly, search rules); leaves = search leaving; turned = search turning }

pub returns-in-Unreadable : goal.returns-in-Unreadable
returns-in-Unreadable c = record { value = (search freshly, record { below = omega arith }); leaves = search leaving; turned = search turning }
