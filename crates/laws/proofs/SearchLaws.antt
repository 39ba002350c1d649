-- A loop that looks at the places of a row one by one: its invariant as a record, and a rule for each way on.
use Prim.Native.Nat.{ℕ, suc, ◌+◌, ◌-◌, ◌<◌, ◌≤◌}
use mathlib.Core.Path.{◌≡◌, refl, sym, ap, ◌∙◌}
use mathlib.Core.Bool.{Bool, true, false}
use native.Mathlib.Omega.{arith}
use Rattle.laws.specs.Search.{first, some}

-- ---- first

-- the places up to i are passed, and the search from i on finds `found`
pub record Finding (p : ℕ → Bool) (n i found : ℕ) : Type 0 where
  pub within : i ≤ n
  pub left : first p (n - i) i ≡ found

module _ {p : ℕ → Bool} {n i found : ℕ} (l : Finding p n i found) where
  pub looking_on : i < n → p i ≡ false → Finding p n (i + 1) found
  unfolding first
  looking_on h e =
      let m : n - i ≡ suc (n - (i + 1)) = omega arith in
      record { within = omega arith; left = rw (m, e) at l.left }

  pub looking_found : i < n → p i ≡ true → i ≡ found
  unfolding first
  looking_found h e =
      let m : n - i ≡ suc (n - (i + 1)) = omega arith in
      rw (m, e) at l.left

  pub looking_none : n ≤ i → i ≡ found
  unfolding first
  looking_none h =
      let m : n - i ≡ 0 = omega arith in
      rw m at l.left

-- b is the code's own answer for the place i, so that each premise stands among a need's facts as it is
module _ (p : ℕ → Bool) (n i found : ℕ) where
  pub looking_no : (b : Bool) → Finding p n i found → i < n → b ≡ p i → b ≡ false → Finding p n (i + 1) found
  looking_no b l h q e = looking_on l h (sym q ∙ e)

  pub looking_yes : (b : Bool) → Finding p n i found → i < n → b ≡ p i → b ≡ true → i ≡ found
  looking_yes b l h q e = looking_found l h (sym q ∙ e)

pub ruleset looks = (looking_no, looking_yes, looking_none)

-- from the first place on
abbrev pub Looking : (ℕ → Bool) → ℕ → ℕ → Type 0
Looking p n i = Finding p n i (first p n 0)

pub looking_start : (p : ℕ → Bool) (n : ℕ) → Looking p n 0
looking_start p n = record { within = omega arith; left = ap (λ k. first p k 0) (omega arith) }

pub ruleset looking = (looking_start, looks)

-- from any place on
abbrev pub Seeking : (ℕ → Bool) → ℕ → ℕ → ℕ → Type 0
Seeking p n i j = Finding p n j (first p (n - i) i)

pub seeking_start : (p : ℕ → Bool) (n i : ℕ) → i ≤ n → Seeking p n i i
seeking_start p n i h = record { within = h; left = refl }

pub ruleset seeking = (seeking_start, looks)

-- ---- some

pub record Asking (p : ℕ → Bool) (n i : ℕ) : Type 0 where
  pub within : i ≤ n
  pub left : some p (n - i) i ≡ some p n 0

pub asking_start : (p : ℕ → Bool) (n : ℕ) → Asking p n 0
asking_start p n = record { within = omega arith; left = ap (λ k. some p k 0) (omega arith) }

-- b as above
module _ (p : ℕ → Bool) (n i : ℕ) where
  pub asking_on : (b : Bool) → Asking p n i → i < n → b ≡ p i → b ≡ false → Asking p n (i + 1)
  unfolding some
  asking_on b l h q e =
      let m : n - i ≡ suc (n - (i + 1)) = omega arith in
      record { within = omega arith; left = rw (m, ← q, e) at l.left }

  pub asking_yes : (b : Bool) → Asking p n i → i < n → b ≡ p i → b ≡ true → true ≡ some p n 0
  unfolding some
  asking_yes b l h q e =
      let m : n - i ≡ suc (n - (i + 1)) = omega arith in
      rw (m, ← q, e) at l.left

  pub asking_no : Asking p n i → n ≤ i → false ≡ some p n 0
  unfolding some
  asking_no l h =
      let m : n - i ≡ 0 = omega arith in
      rw m at l.left

pub ruleset asking = (asking_start, asking_on, asking_yes, asking_no)
