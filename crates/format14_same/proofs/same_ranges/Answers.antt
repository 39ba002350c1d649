-- While the records are equal, what is left tells what the whole tells.
use Rattle.format14_same.proofs.StreamsLaws.{pairing, pairing_first, pairing_second, range_fits}
use Rattle.format14_same.proofs.same_ranges.Goals as goal

pub loop-i-init : goal.loop-i-init
loop-i-init c = search pairing

pub returns-then-kept-j : goal.returns-then-kept-j
returns-then-kept-j c = search pairing

pub next_range-a-requires : goal.next_range-a-requires
next_range-a-requires c = search pairing_first

pub next_range-b-requires : goal.next_range-b-requires
next_range-b-requires c = search (pairing_second)

pub same_range-requires-clause-range_fits : goal.same_range-requires-clause-range_fits
same_range-requires-clause-range_fits c = search range_fits

pub same_range-requires-clause-range_fits_2 : goal.same_range-requires-clause-range_fits_2
same_range-requires-clause-range_fits_2 c = search range_fits

pub loop-i-preserved : goal.loop-i-preserved
loop-i-preserved c = search pairing

pub returns-then-not-same_range : goal.returns-then-not-same_range
returns-then-not-same_range c = search pairing

pub returns : goal.returns
returns c = search pairing
