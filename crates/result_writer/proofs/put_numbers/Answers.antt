-- Three numbers, each behind the one before.
use Rattle.result_writer.proofs.RecordsLaws.{numbers_are}
use Rattle.result_writer.proofs.put_numbers.Goals as goal

pub returns : goal.returns
returns c = search numbers_are
