use Rattle.laws.proofs.SelectLaws.{Counting}
use Rattle.format14_uvs.specs.NonDefault.{mapping_at, keeps_mapping}
use Rattle.format14_mapping.proofs.MappingLaws.{Copies}
use Rattle.format14_non_default.proofs.copy_by.Given as goal

abbrev pub invariant-loop-i : goal.invariant-loop-i
invariant-loop-i l = let t = l.table in
    record {
      counting : Counting (keeps_mapping t.kept.now t.requested.now) (mapping_at t.source.now t.at) l.i-end l.i l.n;
      copies : Copies t.source.now t.at t.kept.now t.map.now t.requested.now l.i-end l.initial.out l.to l.out l.n l.i;
    }
