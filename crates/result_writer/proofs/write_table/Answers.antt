-- Each kind's writer writes the table that is the record's by that kind.
use Rattle.result_writer.proofs.TableLaws.{tables, readable_14, ends_14, size_14}
use Rattle.result_writer.proofs.write_table.Goals as goal

pub write4-requires-clause-fronts : goal.write4-requires-clause-fronts
write4-requires-clause-fronts c = c.requires.known.fronted.each c.args.table.record

pub write4-requires-clause-leads : goal.write4-requires-clause-leads
write4-requires-clause-leads c = search tables

pub write4-requires-clause-fits4 : goal.write4-requires-clause-fits4
write4-requires-clause-fits4 c = search tables

pub write12-requires-clause-fronts : goal.write12-requires-clause-fronts
write12-requires-clause-fronts c = c.requires.known.fronted.each c.args.table.record

pub write12-requires-clause-room : goal.write12-requires-clause-room
write12-requires-clause-room c = search tables

pub returns-in-Format4 : goal.returns-in-Format4
returns-in-Format4 c = search tables

pub returns-in-Format12 : goal.returns-in-Format12
returns-in-Format12 c = search tables

pub returns-in-Format14 : goal.returns-in-Format14
returns-in-Format14 c = search tables

pub returns-in-Unreadable : goal.returns-in-Unreadable
returns-in-Unreadable c = search tables

pub invariant_of-lent : goal.invariant_of-lent
invariant_of-lent c = record { readable = search (readable_14, c.requires.ready) }

pub serialize-requires-clause-ends : goal.serialize-requires-clause-ends
serialize-requires-clause-ends c = (search (ends_14, c.requires.known), search (size_14, c.requires.room))
