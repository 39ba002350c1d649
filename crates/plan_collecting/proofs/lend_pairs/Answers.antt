use Rattle.plan_listing.proofs.ListingLaws.{by_listed, by_front}
use Rattle.plan_collecting.proofs.lend_pairs.Goals as goal

pub returns-then-front-gt0-clause-columns : goal.returns-then-front-gt0-clause-columns
returns-then-front-gt0-clause-columns c = (search (by_listed, by_front), search (by_listed, by_front))

pub returns-then-front-gt0-clause-front : goal.returns-then-front-gt0-clause-front
returns-then-front-gt0-clause-front c = rw c.first_pairs.ensures.front_kept (search by_listed)

pub returns-clause-columns : goal.returns-clause-columns
returns-clause-columns c = (search by_listed, search by_listed)
