-- The count is low or more, and each look ahead moves low or ends the looking.
use native.Mathlib.Omega.{arith}
use Rattle.lists_marks.proofs.BelowLaws.{ahead, ahead_here, ahead_on}
use Rattle.lists_marks.proofs.count_from.Goals as goal

pub halve-requires-clause-halving : goal.halve-requires-clause-halving
halve-requires-clause-halving c = ahead_here _ _ _ _ c.loop-step.invariant.0 c.requires.rising c.loop-step.invariant.1 c.loop-step-test.true (omega arith)

pub loop-step-preserved : goal.loop-step-preserved
loop-step-preserved c = (ahead_on _ _ _ _ c.loop-step.invariant.0 c.requires.rising c.loop-step.invariant.1 c.loop-step-test.true (omega arith), omega arith, omega arith)

pub halve-requires-2-clause-halving : goal.halve-requires-2-clause-halving
halve-requires-2-clause-halving c = search ahead
