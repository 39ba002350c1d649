-- Inner: tables by number and their distances from the end of the subtable, as the code keeps them; no promise names them.
use Rattle.std.specs.Prelude.{ℕ, zero, suc, ◌+◌, ◌-◌, ◌*◌, ◌<◌, ◌≤◌, ◌≡◌, List, [], ◌++◌, length, get_or}
use Rattle.laws.specs.Pieces.{concat}
use Rattle.laws.specs.Search.{first}
use Rattle.laws.specs.Select.{eq_list}
use Rattle.laws.specs.Lasts.{lasts, behind}
use Rattle.format14.specs.ByNumber.{table_max}
use Rattle.format14.specs.Selectors.{one}

-- the tables f i, f (i + 1), .. without the missing ones, n in all
unfoldable pub from : (ℕ → List ℕ) → ℕ → ℕ → List (List ℕ)
from f zero i = []
from f (suc n) i = one (f i) ++ from f n (i + 1)

-- of m tables those from number i on, and those of them that are written
abbrev pub rest : (ℕ → List ℕ) → ℕ → ℕ → List (List ℕ)
rest f m i = from f (m - i) i

abbrev pub written_from : (ℕ → List ℕ) → ℕ → ℕ → List (List ℕ)
written_from f m i = lasts (rest f m i)

-- the next table after t that equals it, of m tables; m if none does
abbrev pub later_equal : (ℕ → List ℕ) → ℕ → ℕ → ℕ
later_equal f m t = first (λ j. eq_list (f t) (f j)) (m - (t + 1)) (t + 1)

-- the distances of m tables from the end of the subtable; 0 for a missing one
pub record Ends (f : ℕ → List ℕ) (m : ℕ) (ends : List ℕ) : Type 0 where
  pub room : m ≤ length ends
  pub each : (j : ℕ) → j < m → get_or ends j 0 ≡ behind (f j) (written_from f m 0)

-- the length of all tables that are written, and its bound
pub record Total (f : ℕ → List ℕ) (m r : ℕ) : Type 0 where
  pub is : r ≡ length (concat (written_from f m 0))
  pub few : r ≤ table_max * m
