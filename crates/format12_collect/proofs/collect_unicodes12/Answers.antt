-- The walk starts from cleared flags.
use Rattle.lists_marks.proofs.MarksLaws.{cleared, cleared_flagged}
use Rattle.format12_collect.proofs.collect_unicodes12.Goals as goal

pub mark_groups-requires-clause-cleared : goal.mark_groups-requires-clause-cleared
mark_groups-requires-clause-cleared c = search cleared

pub returns : goal.returns
returns c = search cleared_flagged
