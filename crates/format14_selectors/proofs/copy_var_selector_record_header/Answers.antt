-- Three numbers, each behind the one before.
use Rattle.format14.proofs.SelectorRecordsLaws.{record_is}
use Rattle.format14_selectors.proofs.copy_var_selector_record_header.Goals as goal

pub returns : goal.returns
returns c = search record_is
