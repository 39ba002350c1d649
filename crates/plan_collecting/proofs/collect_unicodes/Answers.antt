-- Each kind's subtable has the room that its search asks for, and says what its flags become.
use Rattle.plan_listing.proofs.ListingLaws.{asked4, asked12, by_kind}
use Rattle.plan_collecting.proofs.collect_unicodes.Goals as goal

pub invariant_of-subtable : goal.invariant_of-subtable
invariant_of-subtable c = record { room = (asked4 _ _ _ _ _ _ c.requires (λ i. (c.type_inv.s i).fits) c.in-Format4.is).0 }

pub collect_unicodes4-requires : goal.collect_unicodes4-requires
collect_unicodes4-requires c = (asked4 _ _ _ _ _ _ c.requires (λ i. (c.type_inv.s i).fits) c.in-Format4.is).1

pub invariant_of-subtable-in-Format12 : goal.invariant_of-subtable-in-Format12
invariant_of-subtable-in-Format12 c =
    let asked = asked12 _ _ _ _ _ _ c.requires c.in-Format12.is in
    record { room = asked.0; few_glyphs = asked.1.0 }

pub collect_unicodes12-requires : goal.collect_unicodes12-requires
collect_unicodes12-requires c = (asked12 _ _ _ _ _ _ c.requires c.in-Format12.is).1.1

pub returns-in-Format4 : goal.returns-in-Format4
returns-in-Format4 c = search by_kind

pub returns-in-Format12 : goal.returns-in-Format12
returns-in-Format12 c = search by_kind

pub returns-in-Format14 : goal.returns-in-Format14
returns-in-Format14 c = search by_kind

pub returns-in-Unreadable : goal.returns-in-Unreadable
returns-in-Unreadable c = search by_kind
