-- The tables end where the subtable ends, so a distance gives an offset.
use Rattle.format14.proofs.SelectorRecordsLaws.{offset_rules}
use Rattle.format14_selectors.proofs.offset_for.Goals as goal

pub returns-then-far-eq0 : goal.returns-then-far-eq0
returns-then-far-eq0 c = search offset_rules

pub returns : goal.returns
returns c = search offset_rules
