-- The selector as the source has it, and an offset for each distance.
use Rattle.format14.proofs.SelectorRecordsLaws.{far_first, far_second, copied_is}
use Rattle.format14_selectors.proofs.copy_record.Goals as goal

pub offset_for-first-requires : goal.offset_for-first-requires
offset_for-first-requires c = search far_first

pub offset_for-second-requires : goal.offset_for-second-requires
offset_for-second-requires c = search far_second

pub returns : goal.returns
returns c = search copied_is
