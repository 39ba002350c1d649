use Rattle.source_records.proofs.RecordsLaws.{by_record}
use Rattle.source_records.proofs.leads_to.Goals as goal

pub returns : goal.returns
returns c = search by_record
