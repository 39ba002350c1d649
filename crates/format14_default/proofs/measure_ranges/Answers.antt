-- Records passed and records still to come give the whole count and the whole checksum.
use Rattle.format14_ranges.proofs.StreamLaws.{counted, summed}
use Rattle.format14_default.proofs.measure_ranges.Goals as goal

pub loop-i-init : goal.loop-i-init
loop-i-init c = (search counted, search summed)

pub next_range-r-requires : goal.next_range-r-requires
next_range-r-requires c = search counted

pub loop-i-preserved : goal.loop-i-preserved
loop-i-preserved c = (search counted, search summed)

pub returns-clause-range_count : goal.returns-clause-range_count
returns-clause-range_count c = search counted

pub returns-clause-sum_value : goal.returns-clause-sum_value
returns-clause-sum_value c = search summed
