use Rattle.plan_listing.specs.Lent.{lent_job}
use Rattle.plan_make12.proofs.Making12Laws.{columns_of, made12}
use Rattle.plan_make12.proofs.write12_listed.Goals as goal

pub format12_size-size-requires : goal.format12_size-size-requires
format12_size-size-requires c = columns_of (lent_job c.args.job.now) c.args.k _ _ c.requires.columns c.requires.few

pub write_format12-requires-clause-columns : goal.write_format12-requires-clause-columns
write_format12-requires-clause-columns c = columns_of (lent_job c.args.job.now) c.args.k _ _ c.requires.columns c.requires.few

pub write_format12-requires-clause-groups_room : goal.write_format12-requires-clause-groups_room
write_format12-requires-clause-groups_room c = search made12

pub returns : goal.returns
returns c = search made12
