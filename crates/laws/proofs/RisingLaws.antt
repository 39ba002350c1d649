-- Rising lists: a lower place holds a lower number.
use Prim.Native.Nat.{ℕ, zero, suc, ◌+◌, ◌-◌, ◌<◌, ◌≤◌}
use mathlib.Core.Path.{◌≡◌}
use mathlib.Core.List.{List, ◌∷◌}
use mathlib.Core.Logic.{⊎_elim}
use native.Mathlib.Nat.{add-suc, eq-or-lt_of_le}
use native.Mathlib.Omega.{arith}
use lib.ListN.{length, get_or}
use Rattle.laws.specs.Lists.{Rising}

module _ {xs : List ℕ} (r : Rising xs) where
  rising_by : (i k : ℕ) → i + suc k < length xs → get_or xs i 0 < get_or xs (i + suc k) 0
  rising_by i zero h =
      let e : i + 1 ≡ suc i = omega arith in
      rw e (r.climbs i (omega arith))
  rising_by i (suc k) h =
      let a = rising_by i k (omega arith) in
      let b = r.climbs (i + suc k) (omega arith) in
      rw (add-suc i (suc k)) (omega arith)

  pub rising_lt : (i j : ℕ) → i < j → j < length xs → get_or xs i 0 < get_or xs j 0
  rising_lt i j h l =
      let e : i + suc (j - suc i) ≡ j = omega arith in
      rw e at (rising_by i (j - suc i) (rw e l))

  pub rising_le : (i j : ℕ) → i ≤ j → j < length xs → get_or xs i 0 ≤ get_or xs j 0
  rising_le i j h l =
      ⊎_elim (λ (e : i ≡ j). rw e (omega arith)) (λ (e : i < j). omega (arith, rising_lt i j e l)) (eq-or-lt_of_le h)

pub rising_tail : {x : ℕ} {xs : List ℕ} → Rising (x ∷ xs) → Rising xs
rising_tail r = record { climbs = λ i h. r.climbs (suc i) (omega arith) }
