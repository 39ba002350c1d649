-- Inner: the mappings of a non-default table that stay, from a place of its row on; no promise names them.
use Rattle.std.specs.Prelude.{ℕ, ◌+◌, ◌-◌, ◌*◌, ◌<◌, ◌≤◌, ◌≡◌, Bool, true, List, length}
use Rattle.laws.specs.Lists.{Rising, Pair}
use Rattle.laws.specs.Select.{each, select, flat, eq_list}
use Rattle.format14_uvs.specs.NonDefault.{mapping_at, mapping_bytes, keeps_mapping}

-- those of the m mappings of the table at p that stay, from mapping i on
abbrev pub staying : List ℕ → ℕ → ℕ → List ℕ → List ℕ → ℕ → List Pair
staying xs p m kept requested i = select (keeps_mapping kept requested) (each (mapping_at xs p) (m - i) i)

-- the m mappings of the table at p can be read, and looked up in the lists
pub record MappingsLent (xs : List ℕ) (p m : ℕ) (kept requested : List ℕ) : Type 0 where
  pub inside : p + 4 + 5 * m ≤ length xs
  pub kept_rises : Rising kept
  pub requested_rises : Rising requested

-- r is the first mapping from i on that stays, or the end
pub record NextStaying (xs : List ℕ) (p m : ℕ) (kept requested : List ℕ) (i r : ℕ) : Type 0 where
  pub low : i ≤ r
  pub within : r ≤ m
  pub same : staying xs p m kept requested i ≡ staying xs p m kept requested r
  pub stays : r < m → keeps_mapping kept requested (mapping_at xs p r) ≡ true

-- whether those that stay get the same bytes in the tables at p, of m mappings, and q, of n
unfoldable pub same_rows : List ℕ → List ℕ → List ℕ → List ℕ → ℕ → ℕ → ℕ → ℕ → Bool
same_rows xs kept map requested p m q n =
    eq_list (flat (mapping_bytes map) (staying xs p m kept requested 0)) (flat (mapping_bytes map) (staying xs q n kept requested 0))
