-- Inner: what the functions that walk over the pairs hand to each other, here and in the writer; no promise names it.
use Rattle.std.specs.Prelude.{ℕ, ◌+◌, ◌-◌, ◌*◌, ◌≤◌, ◌<◌, ◌≡◌, List, [], ◌∷◌, length}
use Rattle.laws.specs.Lists.{Pair}
use Rattle.format4_cutting.specs.declared.Segment.{Segment}
use Rattle.format4_cutting.specs.Cutting.{points, entries_of}
use Rattle.format4_cutting.specs.Steps.{entries}
use Rattle.format4.specs.declared.RangeCounter.{RangeCounter}
use Rattle.format4.specs.Size.{counter, count_of}

-- ---- the counter

-- both counts are below m
pub record Below (m : ℕ) (n : RangeCounter) : Type 0 where
  pub segments : n.segments < m
  pub glyphs : n.glyphs < m

-- a counter that has seen these segments too
abbrev pub counted : RangeCounter → List Segment → RangeCounter
counted n ss = counter (n.segments + length ss) (n.glyphs + entries ss)

-- m has seen these segments after n; a segment has at most 65,536 entries
pub record Adds (n : RangeCounter) (ss : List Segment) (m : RangeCounter) : Type 0 where
  pub is : m ≡ counted n ss
  pub glyphs : m.glyphs ≤ n.glyphs + 65536 * length ss

-- what a walk over the pairs gives: their count, far from an overflow
pub record CountedPairs (ps : List Pair) (n : RangeCounter) : Type 0 where
  pub is : n ≡ count_of ps
  pub below : Below 1000000000000 n

-- ---- the pairs shared out among segments: each takes as many as it has points

-- k glyphs are enough for the segments of delta 0, and no segment but the closing one takes more
abbrev pub Fed : ℕ → List Segment → Type 0
Fed k [] = Unit {0}
Fed k (x ∷ xs) = (entries_of x ≤ k) × (points x ≤ k + 1) × Fed (k - points x) xs
