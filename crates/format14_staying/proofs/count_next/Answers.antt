-- Where the point at the place is not below c and the one before it is, the place is the count.
use Rattle.format14_staying.proofs.StayingLaws.{bounds}
use Rattle.format14_staying.proofs.count_next.Goals as goal

pub returns-then-i-eq0 : goal.returns-then-i-eq0
returns-then-i-eq0 c = search bounds

pub returns-then-kept-i : goal.returns-then-kept-i
returns-then-kept-i c = search bounds
