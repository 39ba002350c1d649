-- Three numbers of four bytes, each behind the one before.
use native.Mathlib.Omega.{arith}
use Rattle.number.specs.BigEndian.{enc}
use Rattle.number.specs.Row.{encs}
use Rattle.number.proofs.BigEndianLaws.{written_first, written_on}
use Rattle.format12_writer.proofs.put_group.Goals as goal

pub returns : goal.returns
unfolding encs enc
returns c = let w₁ = written_first 4 _ _ _ c.put_u32.ensures in
    let w₂ = written_on 4 _ _ w₁ c.put_u32-2.ensures (omega arith) in
    let w₃ = written_on 4 _ _ w₂ (rw c.from.ensures at c.put_u32-3.ensures) (omega arith) in
    w₃.is
