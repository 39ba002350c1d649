-- The byte of the points behind is written right behind the start.
use Rattle.format14_ranges.proofs.StreamLaws.{range_is}
use Rattle.format14_default.proofs.copy_range.Goals as goal

pub returns : goal.returns
returns c = search range_is
