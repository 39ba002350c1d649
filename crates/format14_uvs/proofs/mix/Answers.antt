-- A square of 32 bits leaves room for what is added.
use native.Mathlib.Omega.{arith}
use mathlib.Core.Path.{refl}
use Prim.Native.Nat.{◌/◌, ◌%◌}
use Rattle.format14_uvs.specs.Checksum.{stirred}
use Rattle.format14_uvs.proofs.ChecksumLaws.{square_below, upper_fits, folded_fits}
use Rattle.format14_uvs.proofs.mix.Goals as goal

pub overflow_mul-x : goal.overflow_mul-x
overflow_mul-x c = omega (arith, square_below (c.args.sum / 4294967296) (omega arith))

pub overflow_add-x : goal.overflow_add-x
overflow_add-x c = omega (arith, square_below (c.args.sum / 4294967296) (omega arith))

pub overflow_add-x-2 : goal.overflow_add-x-2
overflow_add-x-2 c = omega (arith, square_below (c.args.sum / 4294967296) (omega arith))

pub overflow_add-x-3 : goal.overflow_add-x-3
overflow_add-x-3 c = omega (arith, square_below (c.args.sum / 4294967296) (omega arith))

pub overflow_mul-y : goal.overflow_mul-y
overflow_mul-y c = omega (arith, square_below (c.args.sum % 4294967296) (omega arith))

pub overflow_add-y : goal.overflow_add-y
overflow_add-y c = omega (arith, square_below (c.args.sum % 4294967296) (omega arith))

pub overflow_add-y-2 : goal.overflow_add-y-2
overflow_add-y-2 c = omega (arith, square_below (c.args.sum % 4294967296) (omega arith))

pub overflow_add-y-3 : goal.overflow_add-y-3
overflow_add-y-3 c = omega (arith, square_below (c.args.sum % 4294967296) (omega arith))

pub overflow_mul-first : goal.overflow_mul-first
overflow_mul-first c = omega (arith, square_below (c.args.sum / 4294967296) (omega arith))

pub overflow_add-first : goal.overflow_add-first
overflow_add-first c = omega (arith, square_below (c.args.sum / 4294967296) (omega arith))

pub overflow_mul-second : goal.overflow_mul-second
overflow_mul-second c = record { fits = upper_fits _ (omega (arith, square_below (c.args.sum % 4294967296) (omega arith))) }

pub overflow_add-second : goal.overflow_add-second
overflow_add-second c = record { fits = folded_fits _ (omega (arith, square_below (c.args.sum % 4294967296) (omega arith))) }

pub returns : goal.returns
unfolding stirred
returns c = refl
