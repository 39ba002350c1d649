-- The places of a row that pass a test.
use Rattle.std.specs.Prelude.{ℕ, zero, suc, ◌+◌, ◌<◌, ◌≤◌, ◌≡◌, Bool, false}
use Rattle.laws.specs.Choice.{pick, either}

-- the first of the n places from i that passes p; i + n where none does
unfoldable pub first : (ℕ → Bool) → ℕ → ℕ → ℕ
first p zero i = i
first p (suc n) i = let r = first p n (i + 1) in pick (p i) i r

-- whether some one of the n places from i passes p
unfoldable pub some : (ℕ → Bool) → ℕ → ℕ → Bool
some p zero i = false
some p (suc n) i = let r = some p n (i + 1) in either (p i) r

-- a test, of which `says i b` is that it may answer b of place i, answers p i at each of the n places
abbrev pub AnswersAs : (ℕ → Bool) → ℕ → (ℕ → Bool → Type 0) → Type 0
AnswersAs p n says = (i : ℕ) (b : Bool) → i < n → says i b → b ≡ p i

-- and at each place from low on, up to n
abbrev pub AnswersFrom : (ℕ → Bool) → ℕ → ℕ → (ℕ → Bool → Type 0) → Type 0
AnswersFrom p low n says = (i : ℕ) (b : Bool) → low ≤ i → i < n → says i b → b ≡ p i
