-- The size tells the counts and the places; header and columns there are the subtable's bytes.
use mathlib.Core.Path.{◌∙◌}
use native.Mathlib.Omega.{arith}
use Rattle.format4.proofs.CountLaws.{fits_tells}
use Rattle.format4_writer.proofs.SubtableLaws.{told_apart, told_room, told_is}
use Rattle.format4_writer.proofs.write_format4.Goals as goal

pub put_header-requires : goal.put_header-requires
put_header-requires c = let t = fits_tells _ _ c.requires.counted in record { some = t.some; short = t.short; room = c.requires.room }

pub new-requires : goal.new-requires
new-requires c = let t = fits_tells _ _ c.requires.counted in (omega (arith, c.requires.room), omega (arith, t.short))

pub write_columns-requires : goal.write_columns-requires
write_columns-requires c = let p = c.requires in let t = fits_tells _ _ p.counted in
    rw (c.new.ensures, c.put_header.auto.out) record { columns16 = p.columns16; apart = told_apart _ _ _ p.columns16 t _; segments_room = told_room _ _ _ p.columns16 t _ _ p.room }

pub returns : goal.returns
returns c = let p = c.requires in let t = fits_tells _ _ p.counted in
    c.write_columns.ensures ∙ rw (c.new.ensures, c.put_header.ensures) (told_is _ _ _ p.columns16 t _ _ _)
