-- The tables stand behind header and records.
use borrow.Author.Rules.{rules}
use Rattle.format14.proofs.WholeLaws.{distances, records_room, tables_stop, whole}
use Rattle.format14_writer.proofs.serialize.Goals as goal

pub copy_var_selector_record_uvs_tables-requires-clause-ends : goal.copy_var_selector_record_uvs_tables-requires-clause-ends
copy_var_selector_record_uvs_tables-requires-clause-ends c = (search rules, search tables_stop)

pub put_front-requires : goal.put_front-requires
put_front-requires c = (search distances, search records_room)

pub returns : goal.returns
returns c = search whole
