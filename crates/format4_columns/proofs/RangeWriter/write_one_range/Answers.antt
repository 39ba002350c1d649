-- The three numbers, then offset and glyphs; the places go on.
use mathlib.Core.Path.{◌∙◌}
use Rattle.format4_columns.proofs.RangeWriter.write_one_range.Goals as goal

pub returns : goal.returns
returns c = (c.after.ensures, c.rangeoffset_glyph_ids.ensures ∙ rw c.start_end_delta.ensures)
