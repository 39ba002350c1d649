use Rattle.plan.proofs.SizesLaws.{sizes}
use Rattle.plan.proofs.RecordNotesLaws.{fronting}
use borrow.Author.Rules.{rules}
use Rattle.plan_walk.proofs.fresh4.Goals as goal

pub of_size4-requires : goal.of_size4-requires
of_size4-requires c = search sizes

pub returns-clause-value : goal.returns-clause-value
returns-clause-value c = (search sizes, search rules)

pub returns-clause-fronted : goal.returns-clause-fronted
returns-clause-fronted c = search fronting

pub returns-clause-notes_unchanged : goal.returns-clause-notes_unchanged
returns-clause-notes_unchanged c = (search fronting, search fronting)
