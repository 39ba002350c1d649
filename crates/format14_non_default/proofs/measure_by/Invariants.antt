use Rattle.laws.proofs.SelectLaws.{Counting}
use Rattle.format14_uvs.specs.NonDefault.{mapping_at, mapping_bytes, keeps_mapping}
use Rattle.format14_mapping.proofs.MappingLaws.{Judging}
use Rattle.format14_uvs.proofs.ChecksumLaws.{Summing}
use Rattle.format14_non_default.proofs.measure_by.Given as goal

abbrev pub invariant-loop-i : goal.invariant-loop-i
invariant-loop-i l = let t = l.table in
    let stays = keeps_mapping t.kept.now t.requested.now in
    let each = mapping_at t.source.now t.at in
    record {
      counting : Counting stays each l.i-end l.i l.n;
      summing : Summing 5 (mapping_bytes t.map.now) stays each l.i-end l.i l.sum;
      judging : Judging t.source.now t.at t.kept.now t.map.now t.requested.now l.i-end l.i l.bad;
    }
