-- The records taken from the flags are the new table's.
use Rattle.format14.proofs.NewLaws.{new_rules, sum_new}
use Rattle.format14_default.proofs.measure_default.Goals as goal

pub returns-then-ranges-eq0-clause-size_value : goal.returns-then-ranges-eq0-clause-size_value
returns-then-ranges-eq0-clause-size_value c = search new_rules

pub returns-then-ranges-eq0-clause-sum_value : goal.returns-then-ranges-eq0-clause-sum_value
returns-then-ranges-eq0-clause-sum_value c = search sum_new

pub returns-else-ranges-eq0-clause-size_value : goal.returns-else-ranges-eq0-clause-size_value
returns-else-ranges-eq0-clause-size_value c = search new_rules

pub returns-else-ranges-eq0-clause-sum_value : goal.returns-else-ranges-eq0-clause-sum_value
returns-else-ranges-eq0-clause-sum_value c = search sum_new
