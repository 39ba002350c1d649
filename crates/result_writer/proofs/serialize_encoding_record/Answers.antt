-- The source's pair, and where the table of the record's maker stands.
use Rattle.result_writer.proofs.RecordsLaws.{recorded}
use Rattle.result_writer.proofs.serialize_encoding_record.Goals as goal

pub offset_of-offset-requires-clause-k_in_bounds : goal.offset_of-offset-requires-clause-k_in_bounds
offset_of-offset-requires-clause-k_in_bounds c = search recorded

pub returns : goal.returns
returns c = search recorded
