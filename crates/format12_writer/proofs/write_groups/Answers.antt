-- The groups of the pairs ahead, written behind what was, give the groups of the definition.
use Rattle.format12_writer.proofs.WritingLaws.{writing, writing_on}
use Rattle.format12_writer.proofs.write_groups.Goals as goal

pub loop-i-init : goal.loop-i-init
loop-i-init c = search writing

pub put_group-requires : goal.put_group-requires
put_group-requires c = search writing

pub loop-i-preserved : goal.loop-i-preserved
loop-i-preserved c = writing_on _ _ _ _ _ _ _ c.loop-i.invariant _ c.requires.columns c.run_end-i.ensures _ c.put_group.ensures

pub returns : goal.returns
returns c = search writing
