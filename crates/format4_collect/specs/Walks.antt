-- Inner: the two walks over the segments, from the last to the first and in order; no promise names them.
use Rattle.std.specs.Prelude.{ℕ, ◌%◌, ◌<◌, ◌≤◌, ◌≡◌, List, Bool, true, ◌⊎◌, length, get_or, replicate}
use Rattle.std.proofs.lemmas.List.Edits.{sets}
use Rattle.lists_marks.specs.Marks.{flagged}
use Rattle.format4_collect.specs.Downward.{word}

-- what is known of a point whose flag is f: that nothing is said and what is left to ask gives the whole, or the whole
abbrev pub Told : Bool → Bool → ℕ → Type 0
Told whole left f = ((f ≡ 0) × (whole ≡ left)) ⊎ (f ≡ word whole)

-- that of all points, and the flags behind are as they were
pub record Telling (whole left : ℕ → Bool) (ps fs₀ fs : List ℕ) : Type 0 where
  pub same : length fs ≡ length fs₀
  pub told : (k : ℕ) → k < length ps → Told (whole (get_or ps k 0)) (left (get_or ps k 0)) (get_or fs k 0)
  pub past : (k : ℕ) → length ps ≤ k → get_or fs k 0 ≡ get_or fs₀ k 0

-- the first n flags become 1 where they are 1, and 0 where they are 0 or 2
pub record Settled (n : ℕ) (fs fs' : List ℕ) : Type 0 where
  pub same : length fs' ≡ length fs
  pub here : (k : ℕ) → k < n → get_or fs' k 0 ≡ get_or fs k 0 % 2
  pub past : (k : ℕ) → n ≤ k → get_or fs' k 0 ≡ get_or fs k 0

-- what a walk in order did: all if r says so; in any case the flags, once cleared, are what they were
pub record Walked (r : Bool) (p : ℕ → Bool) (ps fs₀ fs : List ℕ) : Type 0 where
  pub all : r ≡ true → fs ≡ sets fs₀ 0 (flagged p ps)
  pub again : sets fs 0 (replicate (length ps) 0) ≡ fs₀
