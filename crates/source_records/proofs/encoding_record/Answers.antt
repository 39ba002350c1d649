use Rattle.source_records.proofs.RecordsLaws.{by_record}
use Rattle.source_records.proofs.encoding_record.Goals as goal

pub unwrap-requires : goal.unwrap-requires
unwrap-requires c = search by_record

pub returns : goal.returns
returns c = search by_record
