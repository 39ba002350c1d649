use Rattle.plan_listing.proofs.ListingLaws.{by_copying}
use Rattle.plan_collecting.proofs.copied_pairs.Goals as goal

pub slice_bounds-result-end : goal.slice_bounds-result-end
slice_bounds-result-end c = search by_copying

pub slice_bounds-result-end-2 : goal.slice_bounds-result-end-2
slice_bounds-result-end-2 c = search by_copying

pub returns-clause-codes : goal.returns-clause-codes
returns-clause-codes c = search by_copying

pub returns-clause-glyphs : goal.returns-clause-glyphs
returns-clause-glyphs c = search by_copying
