-- Inner: the records of a new default table, taken one by one from the kept points ks and their flags fs; no promise names them.
use Rattle.std.specs.Prelude.{ℕ, ◌+◌, ◌*◌, ◌<◌, ◌≤◌, ◌≡◌, List, ◌∷◌, length, get_or, drop}
use Rattle.laws.specs.Choice.{pick}
use Rattle.laws.specs.Lists.{Rising, Pair}
use Rattle.lists_marks.specs.Marks.{kept}
use Rattle.number.specs.BigEndian.{be}
use Rattle.format14_uvs.specs.Default.{in_ranges, longest}

-- the flagged points from place i on
abbrev pub flagged_points : List ℕ → List ℕ → ℕ → List ℕ
flagged_points ks fs i = kept (drop i fs) (drop i ks)

-- their records, each with at most `most` points after its start
abbrev pub records : ℕ → List ℕ → List ℕ → ℕ → List Pair
records most ks fs i = longest most 0 (flagged_points ks fs i)

-- 255 points after the start where the table is written in ranges, else none
unfoldable pub most_of : ℕ → List ℕ → ℕ
most_of r ks = pick (in_ranges r ks) 255 0

-- the table at p can be read; the points rise, and each has a flag
pub record DefaultLent (xs : List ℕ) (p : ℕ) (ks fs : List ℕ) : Type 0 where
  pub head : p + 4 ≤ length xs
  pub inside : p + 4 + 4 * be 4 xs p ≤ length xs
  pub rises : Rising ks
  pub few : length ks ≤ 131072
  pub beside : length ks ≤ length fs

-- a flag for each point, which are few
pub record KeptFlagged (ks fs : List ℕ) : Type 0 where
  pub few : length ks ≤ 131072
  pub beside : length ks ≤ length fs

-- how many records there are, and a bound
pub record RangeCount (most : ℕ) (ks fs : List ℕ) (r : ℕ) : Type 0 where
  pub is : r ≡ length (records most ks fs 0)
  pub below : r ≤ 131072

-- r is the first flagged place from i on, or the end
pub record NextFlagged (ks fs : List ℕ) (i r : ℕ) : Type 0 where
  pub low : i ≤ r
  pub within : r ≤ length ks
  pub same : flagged_points ks fs i ≡ flagged_points ks fs r
  pub flag : r < length ks → get_or fs r 0 ≡ 0 → ⊥

-- i is a flagged place
pub record FlaggedPlace (ks fs : List ℕ) (i : ℕ) : Type 0 where
  pub beside : length ks ≤ length fs
  pub within : i < length ks
  pub flag : get_or fs i 0 ≡ 0 → ⊥

-- the record that begins at the flagged place i has `additional` points after its start; the next one begins at `next`
pub record NextRange (most : ℕ) (ks fs : List ℕ) (i additional next : ℕ) : Type 0 where
  pub gives : records most ks fs i ≡ (get_or ks i 0, additional) ∷ records most ks fs next
  pub few : additional ≤ most
  pub on : i < next
  pub within : next ≤ length ks
  pub flag : next < length ks → get_or fs next 0 ≡ 0 → ⊥
