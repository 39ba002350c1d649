-- Nothing is noted at first.
use Rattle.format12_collect.proofs.BlocksLaws.{full_none}
use Rattle.format12_collect.proofs.mark_groups.Goals as goal

pub mark_groups_by-requires-clause-full : goal.mark_groups_by-requires-clause-full
mark_groups_by-requires-clause-full c = full_none 512 _
