use Rattle.std.proofs.Common.{◌≡◌, ◌/◌, arith}
use Rattle.number.specs.BigEndian.{enc}
use Rattle.number_writer.proofs.u24_bytes.Goals as goal

pub returns : goal.returns
unfolding enc
returns c =
    let e : c.args.v / 65536 ≡ c.args.v / 256 / 256 = omega arith in
    rw (c.to_be_bytes.ensures, e)
