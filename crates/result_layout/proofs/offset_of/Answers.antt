use Rattle.result_layout.proofs.LayoutLaws.{places}
use Rattle.result_layout.proofs.offset_of.Goals as goal

pub returns : goal.returns
returns c = search places
