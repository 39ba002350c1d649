-- The start of three bytes and the byte of the points after it make the number of the record's bytes.
use Rattle.format14_ranges.proofs.StreamLaws.{mix_range_is}
use Rattle.format14_default.proofs.mix_range.Goals as goal

pub returns : goal.returns
returns c = mix_range_is _ _ _ _ (rw (c.from.ensures, c.from-2.ensures) at c.mix.ensures)
