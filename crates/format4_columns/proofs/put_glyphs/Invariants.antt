use Rattle.format4_columns.proofs.PlacesLaws.{Copying}
use Rattle.format4_columns.proofs.put_glyphs.Given as goal

abbrev pub invariant-loop-i : goal.invariant-loop-i
invariant-loop-i l = Copying l.glyphs l.initial.out l.at l.k l.n l.i l.out
