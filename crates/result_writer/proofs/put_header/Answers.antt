-- Version 0 and the count.
use Rattle.result_writer.proofs.RecordsLaws.{header_is}
use Rattle.result_writer.proofs.put_header.Goals as goal

pub returns : goal.returns
returns c = search header_is
