-- Whether some retained record passes a test, by what the search over the counted records came to.
use Prim.Native.Nat.{ℕ}
use mathlib.Core.Path.{◌≡◌}
use mathlib.Core.List.{List}
use mathlib.Core.Bool.{Bool}
use Rattle.laws.specs.Choice.{both}
use Rattle.laws.specs.Search.{some}
use Rattle.source_records.specs.Records.{retained, some_retained, Counted}

pub retained_some : (test : List ℕ → ℕ → Bool) (xs : List ℕ) (n : ℕ) (t : Bool) → Counted xs n → t ≡ some (λ k. both (retained xs k) (test xs k)) n 0 → t ≡ some_retained test xs
unfolding some_retained
retained_some test xs n t c e = rw c.is at e
