use Rattle.plan_listing.proofs.ListingLaws.{by_listed, by_front}
use Rattle.plan_collecting.proofs.lend_noted_pairs.Goals as goal

pub returns-then-front-gt0 : goal.returns-then-front-gt0
returns-then-front-gt0 c = (search by_front, search by_front)

pub returns-else-front-gt0 : goal.returns-else-front-gt0
returns-else-front-gt0 c = (search by_listed, search by_listed)
