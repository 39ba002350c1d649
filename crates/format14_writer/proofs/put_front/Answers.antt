-- The records stand behind the header.
use native.Mathlib.Omega.{arith}
use Rattle.format14.proofs.WholeLaws.{distances_here, room_here, front_is}
use Rattle.format14_writer.proofs.put_front.Goals as goal

pub copy_records-requires-clause-distances : goal.copy_records-requires-clause-distances
copy_records-requires-clause-distances c = search distances_here

pub copy_records-requires-clause-room : goal.copy_records-requires-clause-room
copy_records-requires-clause-room c = (search room_here, omega arith)

pub returns : goal.returns
returns c = search front_is
