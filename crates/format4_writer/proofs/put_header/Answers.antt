-- Seven numbers, and the zero.
use Prim.Native.Nat.{◌*◌, ◌%◌, ◌^◌}
use mathlib.Core.Path.{◌≡◌}
use native.Mathlib.Omega.{arith}
use Rattle.format4_columns.proofs.PlacesLaws.{header_is}
use Rattle.format4_writer.proofs.put_header.Goals as goal

pub returns : goal.returns
returns c =
    let e = c.floor_log2-log.result in
    let small : 1 * 2 ^ e % 4294967296 ≡ 2 ^ e = omega arith in
    header_is _ _ _ _ _ _ _ _ c.floor_log2-log.ensures.value (rw small at c.put_row.ensures) c.put_u16.ensures
