-- Inner: room for a format 4 subtable, and that a source is bytes; no promise names them.
use Rattle.std.specs.Prelude.{ℕ, ◌+◌, ◌≤◌, ◌≡◌, List}
use Rattle.laws.specs.Lists.{Pair}
use Rattle.number.specs.BigEndian.{Bytes}
use Rattle.format4.specs.declared.RangeCounter.{RangeCounter}
use Rattle.format4.specs.declared.Size4.TheVariants.{Fits}
use Rattle.format4.specs.Size.{size_of4, length_of4}

-- the pairs make a format 4 subtable that is neither empty nor too long, and it fits into l bytes at a place
pub record Fits4 (ps : List Pair) (at l : ℕ) : Type 0 where
  pub counter : RangeCounter
  pub is : size_of4 ps ≡ Fits counter
  pub room : at + length_of4 counter ≤ l

-- the numbers of a slice are bytes
pub record OfBytes (xs : List ℕ) : Type 0 where
  pub bytes : Bytes xs
