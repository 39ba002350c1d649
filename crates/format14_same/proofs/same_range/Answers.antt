-- Numbers that fit their bytes are equal exactly where the bytes are.
use mathlib.Core.Path.{◌∙◌}
use Rattle.format14_same.proofs.StreamsLaws.{range_same}
use Rattle.format14_same.proofs.same_range.Goals as goal

pub returns : goal.returns
returns c = c.eq.ensures ∙ range_same _ _ _ _ c.requires.range_fits c.requires.range_fits_2
