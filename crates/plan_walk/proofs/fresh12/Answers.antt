use Rattle.plan.proofs.SizesLaws.{sizes}
use Rattle.plan.proofs.RecordNotesLaws.{fronting}
use Rattle.plan_walk.proofs.fresh12.Goals as goal

pub returns-clause-value : goal.returns-clause-value
returns-clause-value c = (search sizes, search sizes)

pub returns-clause-fronted : goal.returns-clause-fronted
returns-clause-fronted c = search fronting

pub returns-clause-notes_unchanged : goal.returns-clause-notes_unchanged
returns-clause-notes_unchanged c = (search fronting, search fronting)
