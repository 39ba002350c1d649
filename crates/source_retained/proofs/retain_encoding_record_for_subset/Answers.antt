use Rattle.std.proofs.Common.{arith}
use Rattle.laws.proofs.ChoiceLaws.{one_of_lem}
use Rattle.source_records.specs.Records.{retained}
use Rattle.source_retained.proofs.retain_encoding_record_for_subset.Goals as goal

pub returns-then-is_full : goal.returns-then-is_full
unfolding retained
returns-then-is_full c = grind (arith, one_of_lem)

pub returns-else-is_full : goal.returns-else-is_full
unfolding retained
returns-else-is_full c = grind (arith, one_of_lem)
