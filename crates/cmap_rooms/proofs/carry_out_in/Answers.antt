use Rattle.cmap_rooms.proofs.RoomsLaws.{cleared}
use Rattle.cmap_rooms.proofs.carry_out_in.Goals as goal

pub carry_out_on-requires-clause-prepared : goal.carry_out_on-requires-clause-prepared
carry_out_on-requires-clause-prepared g c = let p = c.requires in
    cleared _ p.passing g.row.KEPT g.row.PAIRS p.few.0 p.fits_room
