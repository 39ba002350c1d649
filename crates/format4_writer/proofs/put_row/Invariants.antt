use lib.ListN.{length}
use Rattle.format4_columns.proofs.PlacesLaws.{Copying}
use Rattle.format4_writer.proofs.put_row.Given as goal

abbrev pub invariant-loop-i : goal.invariant-loop-i
invariant-loop-i l = Copying l.row l.initial.out l.at 0 (length l.row) l.i l.out
