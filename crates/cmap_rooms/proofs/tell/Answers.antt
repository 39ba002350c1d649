use Rattle.cmap_rooms.proofs.RoomsLaws.{full_few}
use Rattle.cmap_rooms.proofs.tell.Goals as goal

pub tell_in-requires-2-clause-fits_room : goal.tell_in-requires-2-clause-fits_room
tell_in-requires-2-clause-fits_room c = full_few _ c.requires
