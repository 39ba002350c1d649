use Rattle.std.proofs.Common.{arith}
use Rattle.laws.proofs.ChoiceLaws.{tests}
use Rattle.lists_checks.specs.Checks.{bad_sizes}
use Rattle.lists_checks.proofs.bad_sizes.Goals as goal

pub returns-then-n-gt-GLYPH_COUNT_MAX : goal.returns-then-n-gt-GLYPH_COUNT_MAX
unfolding bad_sizes
returns-then-n-gt-GLYPH_COUNT_MAX c = grind (arith, tests)

pub returns-else-n-gt-GLYPH_COUNT_MAX : goal.returns-else-n-gt-GLYPH_COUNT_MAX
unfolding bad_sizes
returns-else-n-gt-GLYPH_COUNT_MAX c = grind (arith, tests)
