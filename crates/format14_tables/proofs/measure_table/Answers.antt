-- The table found is the default or the non-default one by its number.
use Rattle.format14.proofs.ByNumberLaws.{sizes, sums, bads, lent_default, lent_non_default}
use Rattle.format14.specs.Lent.{lent_job14}
use Rattle.format14_tables.proofs.measure_table.Goals as goal

pub returns-then-off-eq0 : goal.returns-then-off-eq0
returns-then-off-eq0 c = record { size = search sizes; sum = search sums; bad = search bads; source = c.requires.source_offset }

pub measure_default-table-requires : goal.measure_default-table-requires
measure_default-table-requires c = search (lent_default (lent_job14 c.args.job.now))

pub returns-then-t-eq0 : goal.returns-then-t-eq0
returns-then-t-eq0 c = record { size = search sizes; sum = search sums; bad = search bads; source = c.requires.source_offset }

pub invariant_of-measure_non_default : goal.invariant_of-measure_non_default
invariant_of-measure_non_default c = record { lent = search (lent_non_default (lent_job14 c.args.job.now)) }

pub returns : goal.returns
returns c = record { size = search sizes; sum = search sums; bad = search bads; source = c.requires.source_offset }
