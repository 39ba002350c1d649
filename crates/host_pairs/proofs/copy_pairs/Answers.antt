-- One more record's numbers stand in their places.
use Rattle.std.proofs.Common.{arith}
use Rattle.host_pairs.specs.Pairs.{code, glyph}
use Rattle.host_pairs.proofs.LaidLaws.{column_step, column_all}
use Rattle.host_pairs.proofs.copy_pairs.Goals as goal

pub loop-i-preserved : goal.loop-i-preserved
loop-i-preserved c = record {
  codes_copied = column_step code _ _ _ _ c.loop-i.invariant.codes_copied (omega arith) (omega arith);
  glyphs_copied = column_step glyph _ _ _ _ c.loop-i.invariant.glyphs_copied (omega arith) (omega arith);
}

pub returns : goal.returns
returns c = (
  column_all code _ c.loop-i.i _ c.loop-i.invariant.codes_copied (omega arith) (omega arith),
  column_all glyph _ c.loop-i.i _ c.loop-i.invariant.glyphs_copied (omega arith) (omega arith),
)
