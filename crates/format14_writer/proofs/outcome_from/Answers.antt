-- The three ways on are the three outcomes.
use Rattle.laws.proofs.ChoiceLaws.{tests}
use Rattle.format14.specs.Parts.{outcome_from}
use Rattle.format14_writer.proofs.outcome_from.Goals as goal

pub returns-then-refused : goal.returns-then-refused
unfolding outcome_from
returns-then-refused c = rw c.if-refused.true

pub returns-then-count-eq0 : goal.returns-then-count-eq0
unfolding outcome_from
returns-then-count-eq0 c = search (tests, c.if-refused.false)

pub returns : goal.returns
unfolding outcome_from
returns c = search (tests, c.if-refused.false)
