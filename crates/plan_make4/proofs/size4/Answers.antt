use Rattle.plan_make4.proofs.Making4Laws.{made4}
use Rattle.plan_make4.proofs.size4.Goals as goal

pub format4_size-requires : goal.format4_size-requires
format4_size-requires c = search made4

pub returns-clause-size_value : goal.returns-clause-size_value
returns-clause-size_value c = search made4
