-- The walk starts from cleared flags.
use Rattle.lists_marks.proofs.MarksLaws.{cleared, cleared_flagged}
use Rattle.format4_collect.proofs.collect_unicodes4.Goals as goal

pub mark_segments-requires-clause-cleared : goal.mark_segments-requires-clause-cleared
mark_segments-requires-clause-cleared c = search cleared

pub returns : goal.returns
returns c = search cleared_flagged
