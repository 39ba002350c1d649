-- What is left of the records, written from here, gives them all.
use Rattle.result_writer.proofs.RecordsLaws.{recording, recording_room, recording_asks}
use Rattle.result_writer.proofs.serialize_encoding_records.Goals as goal
use Rattle.result_writer.proofs.serialize_encoding_records.Goals.{then-is_written, else-is_written}

pub loop-k-init : goal.loop-k-init
loop-k-init c = search recording

pub serialize_encoding_record-requires-clause-recorded : goal.serialize_encoding_record-requires-clause-recorded
serialize_encoding_record-requires-clause-recorded c = search recording_asks

pub serialize_encoding_record-requires-clause-room : goal.serialize_encoding_record-requires-clause-room
serialize_encoding_record-requires-clause-room c = search recording_room

pub loop-k-preserved : goal.loop-k-preserved
loop-k-preserved c = elim c.if-is_written.branch [ then-is_written w ↦ search recording | else-is_written w ↦ search recording ]

pub returns : goal.returns
returns c = search recording
