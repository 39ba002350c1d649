-- Three numbers, each behind the one before.
use Rattle.format14.proofs.SelectorRecordsLaws.{header_is}
use Rattle.format14_selectors.proofs.put_header.Goals as goal

pub returns : goal.returns
returns c = search header_is
