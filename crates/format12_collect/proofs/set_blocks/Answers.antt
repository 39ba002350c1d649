-- What is left to set, set from here, gives the whole.
use native.Mathlib.Omega.{arith}
use Rattle.format12_collect.proofs.BlocksLaws.{full_part, filling_block}
use Rattle.format12_collect.proofs.set_blocks.Goals as goal

pub loop-i-preserved : goal.loop-i-preserved
loop-i-preserved c = (search filling_block, search full_part, omega arith)
