-- A block that is noted needs nothing; one that is decided whole may be noted.
use Rattle.format4_collect.proofs.DownwardLaws.{noted_skip, noted_more}
use Rattle.format4_collect.proofs.decide_block.Goals as goal

pub returns-then-noted-block-ne0-clause-decided : goal.returns-then-noted-block-ne0-clause-decided
returns-then-noted-block-ne0-clause-decided c = search noted_skip

pub returns-then-span-clause-noted_blocks_2 : goal.returns-then-span-clause-noted_blocks_2
returns-then-span-clause-noted_blocks_2 c = search noted_more
