use Rattle.plan_listing.proofs.ListingLaws.{by_record}
use Rattle.plan_collecting.proofs.collect_record.Goals as goal

pub collect_unicodes-requires : goal.collect_unicodes-requires
collect_unicodes-requires c = search by_record

pub returns : goal.returns
returns c = search by_record
