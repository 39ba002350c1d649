-- What the first pair of each run commits is written behind what was; with the rest and the closing segment it is every column.
use Rattle.format4_columns.proofs.WalkLaws.{writing_start, writing_room, writing_on, ending_room, closing_room, ended_is}
use native.Mathlib.Omega.{arith}
use mathlib.Core.Path.{◌∙◌}
use Rattle.format4_writer.proofs.write_columns.Goals as goal

pub loop-i-init : goal.loop-i-init
loop-i-init c = writing_start _ _ _ _ _ c.new-state.ensures c.requires.apart c.requires.segments_room

pub overflow_cast-codes : goal.overflow_cast-codes
overflow_cast-codes c = record { fits = c.requires.columns16.low _ }

pub bounds-glyphs-i : goal.bounds-glyphs-i
bounds-glyphs-i c = omega (arith, c.requires.columns16.even)

pub absorb-w-requires : goal.absorb-w-requires
absorb-w-requires c = writing_room _ _ _ _ _ _ _ _ c.loop-i.invariant _ c.requires.columns16 c.loop-i-test.true c.absorb-a.ensures

pub overflow_cast-codes-in-loop-i : goal.overflow_cast-codes-in-loop-i
overflow_cast-codes-in-loop-i c = record { fits = c.requires.columns16.low _ }

pub bounds-glyphs-i-in-loop-i : goal.bounds-glyphs-i-in-loop-i
bounds-glyphs-i-in-loop-i c = omega (arith, c.requires.columns16.even)

pub loop-i-preserved : goal.loop-i-preserved
loop-i-preserved c = writing_on _ _ _ _ _ _ _ _ c.loop-i.invariant _ c.requires.columns16 c.loop-i-test.true c.absorb-a.ensures _ _ c.absorb-w.ensures _ _ c.run_end-i.ensures c.grow-state.ensures

pub absorb-v-requires : goal.absorb-v-requires
absorb-v-requires c = ending_room _ _ _ _ _ _ _ _ c.loop-i.invariant _ c.loop-i-test.false c.finish-f.ensures

pub close-requires : goal.close-requires
close-requires c = closing_room _ _ _ _ _ _ _ _ c.loop-i.invariant _ c.loop-i-test.false c.finish-f.ensures _ _ c.absorb-v.ensures

pub returns : goal.returns
returns c = c.close.ensures ∙ ended_is _ _ _ _ _ _ _ _ c.loop-i.invariant _ c.loop-i-test.false c.finish-f.ensures _ _ c.absorb-v.ensures
