-- A table from an earlier one's place is like it.
use Rattle.format14.specs.Lent.{lent_job14}
use Rattle.format14_places.proofs.MeasuringLaws.{measured_like}
use Rattle.format14_places.proofs.measure_one.Goals as goal

pub returns-in-Some : goal.returns-in-Some
returns-in-Some c = measured_like (lent_job14 c.args.job.now) _ _ _ _ c.args.job.now.readable c.source_table-off.ensures c.requires.measured c.in-Some.ensures
