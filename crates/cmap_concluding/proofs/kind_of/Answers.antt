use Rattle.cmap_concluding.proofs.FateLaws.{kinds}
use Rattle.cmap_concluding.proofs.kind_of.Goals as goal

pub written_at-requires-clause-k_in_bounds : goal.written_at-requires-clause-k_in_bounds
written_at-requires-clause-k_in_bounds c = search kinds

pub returns-in-LeftOut : goal.returns-in-LeftOut
returns-in-LeftOut c = search kinds

pub returns-in-BadMapping : goal.returns-in-BadMapping
returns-in-BadMapping c = search kinds

pub returns-in-Served : goal.returns-in-Served
returns-in-Served c = search kinds

pub returns-in-Made : goal.returns-in-Made
returns-in-Made c = search kinds
