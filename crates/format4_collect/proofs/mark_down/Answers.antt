-- Nothing is noted at first; at the end each flag is the answer.
use Rattle.format4_collect.proofs.DownwardLaws.{noted_none}
use Rattle.format4_collect.proofs.DownLaws.{downing}
use Rattle.format4_collect.proofs.mark_down.Goals as goal

pub mark_down_by-requires-clause-noted_blocks : goal.mark_down_by-requires-clause-noted_blocks
mark_down_by-requires-clause-noted_blocks c = noted_none 256 _

pub returns : goal.returns
returns c = search downing
