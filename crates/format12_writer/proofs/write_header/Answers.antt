-- Two numbers of two bytes and three of four, each behind the one before.
use native.Mathlib.Omega.{arith}
use Rattle.number.specs.BigEndian.{enc}
use Rattle.number.specs.Row.{encs}
use Rattle.number.proofs.BigEndianLaws.{written_first, written_on}
use Rattle.format12.specs.Format12.{header12}
use Rattle.format12_writer.proofs.write_header.Goals as goal

pub returns : goal.returns
unfolding header12 encs enc
returns c = let w₁ = written_first 2 _ _ _ c.put_u16.ensures in
    let w₂ = written_on 2 _ _ w₁ c.put_u16-2.ensures (omega arith) in
    let w₃ = written_on 4 _ _ w₂ c.put_u32.ensures (omega arith) in
    let w₄ = written_on 4 _ _ w₃ c.put_u32-2.ensures (omega arith) in
    let w₅ = written_on 4 _ _ w₄ c.put_u32-3.ensures (omega arith) in
    w₅.is
