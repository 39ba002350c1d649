-- What was found of the tables says which of them bring refusal 8.
use Rattle.std.proofs.Common.{arith}
use Rattle.format14.specs.Lent.{lent_job14}
use Rattle.format14_places.proofs.MeasuringLaws.{names_told}
use Rattle.format14_places.proofs.names_missing.Goals as goal

pub returns : goal.returns
returns c = names_told (lent_job14 c.args.job.now) _ _ _ c.requires (omega (arith, c.count_tables.ensures)) c.some_bad.ensures
