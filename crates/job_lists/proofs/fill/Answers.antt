use Rattle.std.proofs.Common.{◌<◌, arith}
use Rattle.laws.proofs.TakeLaws.{take_counts}
use Rattle.job_lists.proofs.FillingLaws.{filling_start, filling_on, filled_front}
use Rattle.job_lists.proofs.fill.Goals as goal

pub loop-i-init : goal.loop-i-init
loop-i-init g c f h = filling_start f _ _

pub loop-i-preserved : goal.loop-i-preserved
loop-i-preserved g c f h =
    let t = take_counts c.args.n c.args.out.now c.requires.room in
    let k : c.loop-i.i < c.args.n = omega (arith, t) in
    filling_on f _ _ _ c.loop-i.i (c.loop-i.invariant f h) _ k (h c.loop-i.i _ k c.read.ensures)

pub returns : goal.returns
returns g c f h =
    let t = take_counts c.args.n c.args.out.now c.requires.room in
    filled_front f _ _ _ c.loop-i.i c.requires.room (omega (arith, t)) (c.loop-i.invariant f h)
