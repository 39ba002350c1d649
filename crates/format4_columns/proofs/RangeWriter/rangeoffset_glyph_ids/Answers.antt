-- The offset at its place, and the part of the array that begins with the segment's first pair.
use Rattle.format4_columns.proofs.RangeWriter.rangeoffset_glyph_ids.Goals as goal

pub returns : goal.returns
returns c = rw (c.put_glyphs.ensures, c.put_u16.ensures, c.entries_of-n.ensures.0, c.offset_of-offset.ensures)
