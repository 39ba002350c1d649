-- What is left, written behind what is written, gives the whole.
use Rattle.std.proofs.Common.{arith}
use Rattle.laws.proofs.SelectLaws.{counting}
use Rattle.format14_mapping.proofs.MappingLaws.{copies, copies_room, count_all}
use Rattle.format14_non_default.proofs.copy_by.Goals.{then-stays_at, else-stays_at}
use Rattle.format14_non_default.proofs.copy_by.Goals as goal

pub loop-i-init : goal.loop-i-init
loop-i-init c = record { counting = search counting; copies = search copies }

pub copy_uvs_mapping-requires : goal.copy_uvs_mapping-requires
copy_uvs_mapping-requires c = (search copies_room, omega arith)

pub loop-i-preserved : goal.loop-i-preserved
loop-i-preserved c = elim c.if-stays_at.branch [
  | then-stays_at w ↦ record {
    counting = rw w.n-is (search (counting, w.if-stays_at));
    copies = rw (w.n-is, w.out-is) (search (copies, w.if-stays_at, w.copy_uvs_mapping.ensures));
  }
  | else-stays_at w ↦ record {
    counting = rw w.n-is (search (counting, w.if-stays_at));
    copies = rw (w.n-is, w.out-is) (search (copies, w.if-stays_at));
  }
]

pub returns-clause-mapping_count : goal.returns-clause-mapping_count
returns-clause-mapping_count c = search count_all

pub returns-clause-out_after : goal.returns-clause-out_after
returns-clause-out_after c = search copies
