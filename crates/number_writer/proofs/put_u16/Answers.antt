use native.Mathlib.Omega.{arith}
use native.Mathlib.Numerals.{add-one}
use lib.ListN.{length-set}
use Rattle.number.specs.BigEndian.{put, enc}
use Rattle.number_writer.proofs.put_u16.Goals as goal

pub bounds-out-at-2 : goal.bounds-out-at-2
bounds-out-at-2 c = simp length-set (omega arith)

pub returns : goal.returns
unfolding put enc
returns c = rw add-one
