-- Inner: for laws alone, lone points with deltas other than 0 and without 0xFFFF, which become a segment each (docs/RULES.md, "Cases").
use Rattle.std.specs.Prelude.{ℕ, zero, suc, ◌+◌, ◌*◌, ◌<◌, ◌≡◌, List, [], ◌∷◌}
use Rattle.laws.specs.Lists.{Pair}
use Rattle.format4_cutting.specs.declared.Segment.{Segment}
use Rattle.format4_cutting.specs.Cutting.{pair_delta, seg}

-- below 0xFFFF, with a delta
pub record LonePoint (p : Pair) : Type 0 where
  pub low : p.0 < 65535
  pub turns : pair_delta p.0 p.1 ≡ 0 → ⊥

-- no code point is adjacent to the next
abbrev pub Lone : List Pair → Type 0
Lone [] = Unit {0}
Lone (p ∷ []) = LonePoint p
Lone (p ∷ q ∷ ps) = LonePoint p × ((q.0 ≡ p.0 + 1 → ⊥) × Lone (q ∷ ps))

-- a segment of its own
abbrev pub alone : Pair → Segment
alone p = seg p.0 p.0 (pair_delta p.0 p.1)

-- glyph 1 at n even numbers from 2·i on
abbrev pub spaced : ℕ → ℕ → List Pair
spaced i zero = []
spaced i (suc n) = (2 * i, 1) ∷ spaced (suc i) n
