-- The count stays between low and high; a look at the middle moves one of them, since the list rises.
use native.Mathlib.Omega.{arith}
use Rattle.lists_marks.proofs.BelowLaws.{halving, halving_up, halving_down}
use Rattle.lists_marks.proofs.halve.Goals as goal

pub loop-low-init : goal.loop-low-init
loop-low-init c = search halving

pub loop-low-preserved-then-from-c : goal.loop-low-preserved-then-from-c
loop-low-preserved-then-from-c c = halving_up _ _ _ _ c.loop-low.invariant c.requires.rising c.loop-low-test.true (omega arith)

pub loop-low-preserved : goal.loop-low-preserved
loop-low-preserved c = halving_down _ _ _ _ c.loop-low.invariant c.requires.rising c.loop-low-test.true (omega arith)

pub returns : goal.returns
returns c = search halving
