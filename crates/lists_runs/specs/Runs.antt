-- Inner: runs in two columns, one of code points and one of glyphs; no promise names them. The pairs of a run have code points and glyphs that both rise by one.
use Rattle.std.specs.Prelude.{ℕ, ◌+◌, ◌-◌, ◌≤◌, ◌<◌, ◌≡◌, List, Bool, not, eqb, length, get_or}
use Rattle.laws.specs.Choice.{both}
use Rattle.laws.specs.Search.{first}

-- the pair (d, h) does not go on from the pair (c, g)
unfoldable pub breaks : ℕ → ℕ → ℕ → ℕ → Bool
breaks c g d h = not (both (eqb d (c + 1)) (eqb h (g + 1)))

-- the pair at k does not go on from the one before it
abbrev pub breaks_at : List ℕ → List ℕ → ℕ → Bool
breaks_at cs gs k = breaks (get_or cs (k - 1) 0) (get_or gs (k - 1) 0) (get_or cs k 0) (get_or gs k 0)

-- the first place behind i whose pair does not go on from the one before it; the number of pairs where there is none
unfoldable pub run_end : List ℕ → List ℕ → ℕ → ℕ
run_end cs gs i = first (breaks_at cs gs) (length cs - (i + 1)) (i + 1)

-- r is that place, for i one of the pairs
pub record RunEndsAt (cs gs : List ℕ) (i r : ℕ) : Type 0 where
  pub is : r ≡ run_end cs gs i
  pub behind : i < r
  pub within : r ≤ length cs
