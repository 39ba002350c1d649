-- The flags from low up to j are decided, and the notes are true of them.
use Rattle.format4_collect.proofs.DownwardLaws.{deciding, decided_then, held_part, flags_kept}
use native.Mathlib.Omega.{arith}
use borrow.Author.Rules.{rules}
use Rattle.format4_collect.proofs.decide_blocks.Goals as goal

pub loop-j-init : goal.loop-j-init
loop-j-init c = (search deciding, search rules, omega arith)

pub decide_block-requires-clause-held : goal.decide_block-requires-clause-held
decide_block-requires-clause-held c = search held_part

pub decide_block-requires-clause-flags : goal.decide_block-requires-clause-flags
decide_block-requires-clause-flags c = search flags_kept

pub loop-j-preserved : goal.loop-j-preserved
loop-j-preserved c = (search decided_then, search rules, omega arith)

pub returns-clause-decided : goal.returns-clause-decided
returns-clause-decided c = search deciding
