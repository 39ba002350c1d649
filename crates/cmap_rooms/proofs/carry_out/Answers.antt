use Rattle.cmap_rooms.proofs.RoomsLaws.{full_few}
use Rattle.cmap_rooms.proofs.carry_out.Goals as goal

pub carry_out_in-requires-2-clause-fits_room : goal.carry_out_in-requires-2-clause-fits_room
carry_out_in-requires-2-clause-fits_room c = full_few _ c.requires
