-- The table found is the default or the non-default one by its number.
use Rattle.format14.proofs.ByNumberLaws.{copies, lent_default, lent_non_default, room_default, room_non_default}
use Rattle.format14.specs.Lent.{lent_job14}
use Rattle.format14_tables.proofs.copy_table.Goals as goal

pub returns-then-off-eq0 : goal.returns-then-off-eq0
returns-then-off-eq0 c = search copies

pub copy_default_uvs-requires-clause-default_lent : goal.copy_default_uvs-requires-clause-default_lent
copy_default_uvs-requires-clause-default_lent c = search (lent_default (lent_job14 c.args.job.now))

pub copy_default_uvs-requires-clause-room : goal.copy_default_uvs-requires-clause-room
copy_default_uvs-requires-clause-room c = search (room_default (lent_job14 c.args.job.now))

pub returns-then-t-eq0 : goal.returns-then-t-eq0
returns-then-t-eq0 c = search copies

pub invariant_of-table : goal.invariant_of-table
invariant_of-table c = record { lent = search (lent_non_default (lent_job14 c.args.job.now)) }

pub copy_non_default_uvs-requires : goal.copy_non_default_uvs-requires
copy_non_default_uvs-requires c = search (room_non_default (lent_job14 c.args.job.now))

pub returns : goal.returns
returns c = search copies
