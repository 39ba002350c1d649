-- Header, records and tables, each behind the one before.
use Rattle.result_writer.proofs.WholeLaws.{whole}
use Rattle.result_writer.proofs.serialize_cmap.Goals as goal

pub serialize_encoding_records-requires-clause-laid : goal.serialize_encoding_records-requires-clause-laid
serialize_encoding_records-requires-clause-laid c = search whole

pub serialize_encoding_records-requires-clause-room : goal.serialize_encoding_records-requires-clause-room
serialize_encoding_records-requires-clause-room c = search whole

pub returns : goal.returns
returns c = search whole
