use Rattle.cmap_rooms.proofs.RoomsLaws.{cleared}
use Rattle.cmap_rooms.proofs.tell_in.Goals as goal

pub tell_on-requires-clause-prepared : goal.tell_on-requires-clause-prepared
tell_on-requires-clause-prepared g c = let p = c.requires in
    cleared _ p.passing g.row.KEPT g.row.PAIRS p.few.0 p.fits_room
