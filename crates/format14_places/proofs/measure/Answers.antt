-- What is found of each table before this one is stored.
use Rattle.std.proofs.Common.{arith, rules}
use Rattle.format14_places.proofs.MeasuringLaws.{measures_start, measures_on, measures_all}
use Rattle.format14_places.proofs.measure.Goals as goal

pub loop-t-init : goal.loop-t-init
loop-t-init c = (measures_start _ _, search rules)

pub measure_one-requires-clause-measured : goal.measure_one-requires-clause-measured
measure_one-requires-clause-measured c = c.loop-t.invariant.0

pub loop-t-preserved : goal.loop-t-preserved
loop-t-preserved c = (measures_on _ _ _ _ c.loop-t.invariant.0 (omega arith) c.measure_one.ensures, search rules)

pub returns : goal.returns
returns c = measures_all _ _ _ _ c.loop-t.invariant.0 (omega arith)
