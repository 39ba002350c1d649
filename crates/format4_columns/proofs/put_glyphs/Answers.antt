-- One glyph is put, and the rest of the part is left behind it.
use Rattle.format4_columns.proofs.PlacesLaws.{copying_on, copying_end}
use Rattle.format4_columns.proofs.put_glyphs.Goals as goal

pub loop-i-preserved : goal.loop-i-preserved
loop-i-preserved c = let e = rw c.from.ensures at c.put_u16.ensures in search copying_on

pub returns : goal.returns
returns c = search copying_end
