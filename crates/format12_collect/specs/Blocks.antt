-- Inner: flags in blocks of 256, and a row that notes from which block up to which all flags are 1; no promise names them.
use Rattle.std.specs.Prelude.{ℕ, ◌-◌, ◌*◌, ◌<◌, ◌≤◌, ◌≡◌, List, get_or, replicate}
use Rattle.std.proofs.lemmas.List.Edits.{sets}

-- the flags from i on, up to j, are 1
pub record Ones (fs : List ℕ) (i j : ℕ) : Type 0 where
  pub each : (k : ℕ) → i ≤ k → k < j → get_or fs k 0 ≡ 1

-- from block b on, up to the block that is noted for it, all flags are 1; where 0 is noted nothing is said
pub record Full (full fs : List ℕ) : Type 0 where
  pub ones : (b : ℕ) → Ones fs (256 * b) (get_or full b 0 * 256)

-- the flags from i on, up to j, are set to 1, some of those up to high
pub record Part (fs fs' : List ℕ) (i j high : ℕ) : Type 0 where
  pub is : fs' ≡ sets fs i (replicate (j - i) 1)
  pub past : i < j
  pub upto : j ≤ high
