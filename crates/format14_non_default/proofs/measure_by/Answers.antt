-- Mappings passed and mappings still to come give the whole count, the whole checksum, and whether one of all is bad.
use Rattle.std.proofs.Common.{arith}
use Rattle.laws.proofs.SelectLaws.{counting}
use Rattle.format14_mapping.proofs.MappingLaws.{judging, lengths, mapping_size, sum_all}
use Rattle.format14_uvs.proofs.ChecksumLaws.{summing_start, summing}
use Rattle.format14_non_default.proofs.measure_by.Goals.{then-stays, else-stays}
use Rattle.format14_non_default.proofs.measure_by.Goals as goal

pub loop-i-init : goal.loop-i-init
loop-i-init c = record { counting = search counting; summing = summing_start _ _ _ _ _ (omega arith) (mapping_size _); judging = search judging }

pub loop-i-preserved : goal.loop-i-preserved
loop-i-preserved c = elim c.if-stays.branch [
  | then-stays w ↦ record {
    counting = rw w.n-is (search (counting, w.if-stays));
    summing = rw w.sum-is (search (summing, w.if-stays, w.mix_mapping-more.ensures));
    judging = rw w.bad-is (search (judging, w.if-stays, w.mix_mapping-more.ensures));
  }
  | else-stays w ↦ record {
    counting = rw w.n-is (search (counting, w.if-stays));
    summing = rw w.sum-is (search (summing, w.if-stays));
    judging = rw w.bad-is (search (judging, w.if-stays));
  }
]

pub returns-then-n-eq0 : goal.returns-then-n-eq0
returns-then-n-eq0 c = record { size_value = search lengths; sum_value = search sum_all; bad_value = search judging }

pub returns-else-n-eq0 : goal.returns-else-n-eq0
returns-else-n-eq0 c = record { size_value = search lengths; sum_value = search sum_all; bad_value = search judging }
