-- One segment more, and its entries.
use native.Mathlib.Nat.{add-zero}
use native.Mathlib.Omega.{arith}
use Rattle.format4.proofs.RangeCounter.write_one_range.Goals as goal

pub returns : goal.returns
returns c = let e = c.entries_of.ensures in record { is = simp (e.0, add-zero); glyphs = omega arith }
