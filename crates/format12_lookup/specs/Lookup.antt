-- Inner: what the laws on lookups ask of the pairs of a format 12 subtable (docs/RULES.md, "What is lent"); no promise names it.
use Rattle.std.specs.Prelude.{ℕ, suc, ◌≤◌, List, [], ◌∷◌}
use Rattle.laws.specs.Lists.{Pair}
use Rattle.number.specs.Limits.{unicode_max}

-- code points that rise from lo on and are Unicode's, glyphs of 16 bits
pub data Above : ℕ → List Pair → Type 0 where
  above_none : {lo : ℕ} → Above lo []
  above_more : {lo : ℕ} {p : Pair} {ps : List Pair} → lo ≤ p.0 → p.0 ≤ unicode_max → p.1 ≤ 65535 → Above (suc p.0) ps → Above lo (p ∷ ps)
