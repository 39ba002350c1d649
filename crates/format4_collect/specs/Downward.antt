-- Inner: one segment, walking from the last to the first; no promise names it. A flag is 0 while no segment held its point, then 1 or 2 for yes or no, which stays.
use Rattle.std.specs.Prelude.{ℕ, ◌+◌, ◌*◌, ◌<◌, ◌≤◌, ◌≡◌, List, Bool, eqb, length, get_or}
use Rattle.laws.specs.Choice.{pick}
use Rattle.lists_marks.specs.Marks.{Inside}

-- yes or no
abbrev pub word : Bool → ℕ
word b = pick b 1 2

-- a segment's word on a point that it holds, whose flag is f
unfoldable pub decided : Bool → ℕ → ℕ
decided b f = pick (eqb f 0) (word b) f

-- the points at low up to high lie in start..end
pub record Held (ps : List ℕ) (start end low high : ℕ) : Type 0 where
  pub each : (k : ℕ) → low ≤ k → k < high → Inside start end (get_or ps k 0)
  pub within : high ≤ length ps

-- the flags fs at low up to high become what v decides
pub record Decided (v : ℕ → Bool) (ps fs fs' : List ℕ) (low high : ℕ) : Type 0 where
  pub same : length fs' ≡ length fs
  pub order : low ≤ high
  pub here : (k : ℕ) → low ≤ k → k < high → get_or fs' k 0 ≡ decided (v (get_or ps k 0)) (get_or fs k 0)
  pub under : (k : ℕ) → k < low → get_or fs' k 0 ≡ get_or fs k 0
  pub over : (k : ℕ) → high ≤ k → get_or fs' k 0 ≡ get_or fs k 0

-- where a block of 256 is noted, none of its flags is 0
pub record NotedBlocks (noted fs : List ℕ) : Type 0 where
  pub shut : (b k : ℕ) → (get_or noted b 0 ≡ 0 → ⊥) → 256 * b ≤ k → k < 256 * b + 256 → get_or fs k 0 ≡ 0 → ⊥

-- the flags of the points that pass p become what v decides
pub record DecidedBy (p v : ℕ → Bool) (ps fs fs' : List ℕ) : Type 0 where
  pub same : length fs' ≡ length fs
  pub here : (k : ℕ) → k < length ps → get_or fs' k 0 ≡ pick (p (get_or ps k 0)) (decided (v (get_or ps k 0)) (get_or fs k 0)) (get_or fs k 0)
  pub past : (k : ℕ) → length ps ≤ k → get_or fs' k 0 ≡ get_or fs k 0
