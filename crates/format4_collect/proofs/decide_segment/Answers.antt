-- The points that the segment holds stand side by side.
use Rattle.format4_collect.proofs.DownwardLaws.{holding, span_few}
use native.Mathlib.Omega.{arith}
use Rattle.format4_collect.proofs.decide_segment.Goals as goal

pub decide_blocks-requires-clause-order : goal.decide_blocks-requires-clause-order
decide_blocks-requires-clause-order c = (omega arith, search span_few)

pub decide_blocks-requires-clause-held : goal.decide_blocks-requires-clause-held
decide_blocks-requires-clause-held c = search holding

pub returns-then-span-clause-decided_by : goal.returns-then-span-clause-decided_by
returns-then-span-clause-decided_by c = search holding

pub returns-else-span-clause-decided_by : goal.returns-else-span-clause-decided_by
returns-else-span-clause-decided_by c = search holding
