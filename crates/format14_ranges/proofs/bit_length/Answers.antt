-- The bits below the leading zeros are those that hold the number.
use Rattle.std.proofs.Common.{arith}
use mathlib.Core.Path.{◌∙◌}
use Rattle.format14_ranges.proofs.BitsLaws.{bits_left}
use Rattle.format14_ranges.proofs.bit_length.Goals as goal

pub returns : goal.returns
returns c = (c.from.ensures ∙ bits_left c.args.r c.ranges.r.fits, omega (arith, c.from.ensures))
