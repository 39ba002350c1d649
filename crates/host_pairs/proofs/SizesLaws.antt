-- Where no size is broken, the work room has a place for each pair.
use Prim.Native.Nat.{ℕ, ◌≤◌}
use mathlib.Core.Path.{◌≡◌}
use mathlib.Core.Bool.{false}
use lib.Dec.{ltb}
use borrow.Author.Tests.{ltb-false}
use Rattle.laws.proofs.EitherLaws.{neither_left, neither_right}
use Rattle.host_pairs.specs.Sizes.{sizes_broken}

pub long : (source pairs codes glyphs kept n requested : ℕ) → sizes_broken source pairs codes glyphs kept n requested ≡ false → (pairs ≤ codes) × (pairs ≤ glyphs)
long source pairs codes glyphs kept n requested e =
    (ltb-false codes pairs (neither_left (ltb codes pairs) _ e), ltb-false glyphs pairs (neither_left (ltb glyphs pairs) _ (neither_right (ltb codes pairs) _ e)))
