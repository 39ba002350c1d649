use Rattle.result_writer.proofs.RecordsLaws.{Recording}
use Rattle.result_writer.proofs.serialize_encoding_records.Given as goal

abbrev pub invariant-loop-k : goal.invariant-loop-k
invariant-loop-k l = Recording l.s l.outcomes l.initial.out l.out l.place l.k
