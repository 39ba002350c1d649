-- The lists answer as they hold, and the two answers are joined as the definition joins them; an empty list holds nothing.
use Rattle.std.proofs.Common.{rules}
use Rattle.format14_staying.proofs.StayingLaws.{keeps_rules}
use Rattle.format14_staying.proofs.stays_at.Goals as goal

pub returns-then-stands_at : goal.returns-then-stands_at
returns-then-stands_at c = search keeps_rules

pub returns-then-is_empty : goal.returns-then-is_empty
returns-then-is_empty c = search (rules, keeps_rules)

pub returns : goal.returns
returns c = search keeps_rules
