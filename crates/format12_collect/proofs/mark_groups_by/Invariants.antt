use Rattle.format12_collect.specs.Blocks.{Full}
use Rattle.format12_collect.proofs.CollectLaws.{Marking}
use Rattle.format12_collect.proofs.mark_groups_by.Given as goal

abbrev pub invariant-loop-g : goal.invariant-loop-g
invariant-loop-g l = Marking l.subtable.source.now l.subtable.at l.subtable.groups l.subtable.glyphs l.points l.initial.flags l.flags l.g × Full l.full l.flags
