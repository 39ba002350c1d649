-- Inner: what the functions of a non-default table are lent, the table at p inside the source and the lists in order; no promise names it.
use Rattle.std.specs.Prelude.{ℕ, ◌+◌, ◌*◌, ◌^◌, ◌<◌, ◌≤◌, List, ◌≡◌, length, get_or}
use Rattle.laws.specs.Lists.{Rising}
use Rattle.number.specs.BigEndian.{be}
use Rattle.number.specs.Limits.{absent}
use Rattle.format14_uvs.specs.NonDefault.{kept_mappings}

-- the whole table can be read
pub record NonDefaultLent (xs : List ℕ) (p : ℕ) (kept requested : List ℕ) : Type 0 where
  pub head : p + 4 ≤ length xs
  pub inside : p + 4 + 5 * be 4 xs p ≤ length xs
  pub kept_rises : Rising kept
  pub requested_rises : Rising requested

-- the new glyph r of the old one g, and its bound
pub record NewNumber (map : List ℕ) (g r : ℕ) : Type 0 where
  pub is : r ≡ get_or map g absent
  pub below : r < 256 ^ 2

-- how many mappings stay, and its bound
pub record MappingCount (xs : List ℕ) (p : ℕ) (kept requested : List ℕ) (r : ℕ) : Type 0 where
  pub is : r ≡ length (kept_mappings xs p kept requested)
  pub below : r < 256 ^ 4
