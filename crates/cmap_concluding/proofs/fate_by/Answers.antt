use Rattle.cmap_concluding.proofs.FateLaws.{finding, concluding}
use Rattle.cmap_concluding.proofs.fate_by.Goals as goal

pub late_refusal-requires : goal.late_refusal-requires
late_refusal-requires c = search concluding

pub returns-in-Err : goal.returns-in-Err
returns-in-Err c = search finding

pub returns-then-outcomes-k : goal.returns-then-outcomes-k
returns-then-outcomes-k c = search (finding, c.in_default.not-Err)

pub encoding_record-record-requires : goal.encoding_record-record-requires
encoding_record-record-requires c = search finding

pub returns : goal.returns
returns c = search (finding, c.in_default.not-Err)
