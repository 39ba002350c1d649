-- Inner: the records of two default tables, taken one by one from the same points and two flaggings of them; no promise names them.
use Rattle.std.specs.Prelude.{ℕ, ◌≤◌, Bool, List, get_or}
use Rattle.laws.specs.Select.{flat, eq_list}
use Rattle.number.specs.Limits.{unicode_max}
use Rattle.format14_uvs.specs.Default.{range_bytes}
use Rattle.format14_ranges.specs.Stream.{KeptFlagged, records}

-- no point is above the greatest code point
pub record CodePoints (ks : List ℕ) : Type 0 where
  pub low : (i : ℕ) → get_or ks i 0 ≤ unicode_max

-- a record that its four bytes hold
pub record RangeFits (start additional : ℕ) : Type 0 where
  pub start_fits : start ≤ unicode_max
  pub additional_fits : additional ≤ 255

-- a flag for each point, and records that four bytes hold
pub record Flagging (ks fs : List ℕ) (most : ℕ) : Type 0 where
  pub beside : KeptFlagged ks fs
  pub points : CodePoints ks
  pub small : most ≤ 255

-- whether the records get the same bytes
unfoldable pub same_ranges : List ℕ → List ℕ → ℕ → List ℕ → ℕ → Bool
same_ranges ks fs most gs limit = eq_list (flat range_bytes (records most ks fs 0)) (flat range_bytes (records limit ks gs 0))
