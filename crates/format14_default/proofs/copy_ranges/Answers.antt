-- What is left, written behind what is written, gives the whole.
use Rattle.format14_ranges.proofs.StreamLaws.{counted, written, written_room}
use Rattle.format14_default.proofs.copy_ranges.Goals as goal

pub loop-i-init : goal.loop-i-init
loop-i-init c = (search counted, search written)

pub next_range-r-requires : goal.next_range-r-requires
next_range-r-requires c = search counted

pub copy_range-requires : goal.copy_range-requires
copy_range-requires c = search written_room

pub loop-i-preserved : goal.loop-i-preserved
loop-i-preserved c = (search counted, search written)

pub returns-clause-range_count : goal.returns-clause-range_count
returns-clause-range_count c = search counted

pub returns-clause-out_after : goal.returns-clause-out_after
returns-clause-out_after c = search written
