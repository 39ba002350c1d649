-- All blocks of a stretch are full once it is set.
use Prim.Native.Nat.{◌+◌, ◌-◌, ◌/◌}
use mathlib.Core.Path.{◌≡◌}
use native.Mathlib.Omega.{arith}
use Rattle.format12_collect.proofs.BlocksLaws.{full_noted}
use Rattle.format12_collect.proofs.set_long.Goals as goal

pub returns-clause-full_2 : goal.returns-clause-full_2
returns-clause-full_2 c =
    let e : c.div_ceil.result ≡ (c.args.low + 256 - 1) / 256 = omega (arith, c.div_ceil.ensures) in
    full_noted _ _ _ _ c.args.low c.args.high c.requires.full (omega arith) c.set_blocks.ensures (rw e at c.note_full.ensures)
