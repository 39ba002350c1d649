-- Inner: what is lent to ask whether a mapping stays; no promise names it.
use Rattle.std.specs.Prelude.{ℕ, ◌+◌, ◌≤◌, List, length}
use Rattle.laws.specs.Lists.{Rising}

-- the mapping at p can be read, and looked up in the lists
pub record MappingLent (xs : List ℕ) (p : ℕ) (kept requested : List ℕ) : Type 0 where
  pub inside : p + 5 ≤ length xs
  pub kept_rises : Rising kept
  pub requested_rises : Rising requested
