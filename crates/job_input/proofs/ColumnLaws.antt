-- How long a column is.
use Prim.Native.Nat.{ℕ, zero, suc, ◌+◌}
use mathlib.Core.Path.{◌≡◌, refl, ap}
use mathlib.Core.List.{List}
use lib.ListN.{length}
use Rattle.job_input.specs.Column.{column}

pub length-column : (w stride : ℕ) (xs : List ℕ) (at n : ℕ) → length (column w stride xs at n) ≡ n
unfolding column
length-column w stride xs at zero = refl
length-column w stride xs at (suc n) = ap suc (length-column w stride xs (at + stride) n)
