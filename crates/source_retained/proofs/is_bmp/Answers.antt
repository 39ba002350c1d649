use Rattle.std.proofs.Common.{arith}
use Rattle.laws.proofs.ChoiceLaws.{one_of_lem}
use Rattle.source_records.specs.Records.{bmp_pair}
use Rattle.source_retained.proofs.is_bmp.Goals as goal

pub returns-then-is_pair : goal.returns-then-is_pair
unfolding bmp_pair
returns-then-is_pair c = grind (arith, one_of_lem)

pub returns-else-is_pair : goal.returns-else-is_pair
unfolding bmp_pair
returns-else-is_pair c = grind (arith, one_of_lem)
