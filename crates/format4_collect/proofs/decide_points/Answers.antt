-- The flags from low up to j are decided, the others as they were.
use Rattle.format4_collect.proofs.DownwardLaws.{deciding, decided_done, held_at}
use native.Mathlib.Omega.{arith}
use Rattle.format4_collect.proofs.decide_points.Goals as goal

pub loop-j-init : goal.loop-j-init
loop-j-init c = search deciding

pub maps-requires : goal.maps-requires
maps-requires c = search held_at

pub loop-j-preserved : goal.loop-j-preserved
loop-j-preserved c = search deciding

pub returns : goal.returns
returns c = decided_done _ _ _ _ _ _ _ c.loop-j.invariant (omega arith) c.loop-j-test.false
