-- One number is put, and the rest of the row is left behind it.
use Prim.Native.Nat.{ℕ, ◌+◌}
use mathlib.Core.Path.{◌≡◌, ◌∙◌, ap}
use mathlib.Core.List.{List}
use native.Mathlib.Omega.{arith}
use lib.Seq.{sets, take-length}
use Rattle.number.specs.Row.{encs}
use Rattle.format4_columns.proofs.PlacesLaws.{copying_start, copying_on, copying_end}
use Rattle.format4_writer.proofs.put_row.Goals as goal

pub loop-i-init : goal.loop-i-init
loop-i-init c = copying_start _ _ _ _ _

pub loop-i-preserved : goal.loop-i-preserved
loop-i-preserved c =
    let z : 0 + c.loop-i.i ≡ c.loop-i.i = omega arith in
    copying_on c.args.row.now c.args.out.now c.args.at 0 _ c.loop-i.i _ _ c.loop-i.invariant (omega arith) (omega arith) (rw z c.put_u16.ensures)

pub returns : goal.returns
returns c =
    copying_end _ _ _ _ _ _ _ c.loop-i.invariant (omega arith) ∙ ap (λ (l : List ℕ). sets c.args.out.now c.args.at (encs 2 l)) (take-length _)
