-- Stores into a list from a place on: `sets l i vs` is l with vs from i and all else as it was.
use Prim.Native.Nat.{ℕ, zero, suc, ◌+◌, ◌<◌, ◌≤◌}
use mathlib.Core.Path.{◌≡◌, refl, ◌∙◌}
use mathlib.Core.List.{List, [], ◌∷◌, ◌++◌}
use mathlib.Core.Logic.{◌⊎◌, inl, inr, ⊎_elim}
use native.Mathlib.Nat.{add-zero, add-suc, suc-add, not-suc-le-zero}
use native.Mathlib.Omega.{arith}
use lib.ListN.{length, get_or, take, drop, set, length-set}
use lib.Seq.{sets, sets-eq, get_or-set_same, get_or-set_other, take_at}

-- ---- stores that join

pub sets_snoc : (l : List ℕ) (i : ℕ) (vs : List ℕ) (a : ℕ) → sets l i (vs ++ (a ∷ [])) ≡ set (sets l i vs) (i + length vs) a
sets_snoc l i [] a = rw add-zero
sets_snoc l i (v ∷ vs) a = rw (sets_snoc (set l i v) (suc i) vs a, add-suc, suc-add)

pub sets-append : (l : List ℕ) (i : ℕ) (vs ws : List ℕ) → sets (sets l i vs) (i + length vs) ws ≡ sets l i (vs ++ ws)
sets-append l i [] ws = rw add-zero
sets-append l i (v ∷ vs) ws = rw (add-suc, ← suc-add) (sets-append (set l i v) (suc i) vs ws)

-- ---- what stands where after a store

pub get_or-sets_other : (l : List ℕ) (i : ℕ) (vs : List ℕ) (j : ℕ) → (j < i) ⊎ (i + length vs ≤ j) → get_or (sets l i vs) j 0 ≡ get_or l j 0
get_or-sets_other l i [] j h = refl
get_or-sets_other l i (v ∷ vs) j h =
    get_or-sets_other (set l i v) (suc i) vs j (⊎_elim (λ a. inl (omega arith)) (λ b. inr (omega arith)) h)
    ∙ get_or-set_other l i j v 0 (λ e. ⊎_elim (λ a. omega arith) (λ b. omega arith) h)

pub get_or-sets_in : (l : List ℕ) (i : ℕ) (vs : List ℕ) (k : ℕ) → k < length vs → i + length vs ≤ length l → get_or (sets l i vs) (i + k) 0 ≡ get_or vs k 0
get_or-sets_in l i [] k h r = absurd (not-suc-le-zero h)
get_or-sets_in l i (v ∷ vs) zero h r =
    get_or-sets_other (set l i v) (suc i) vs (i + 0) (inl (omega arith))
    ∙ rw (add-zero i) (get_or-set_same l i v 0 (omega arith))
get_or-sets_in l i (v ∷ vs) (suc k) h r =
    rw (add-suc i k, ← suc-add i k) (get_or-sets_in (set l i v) (suc i) vs k (omega arith) (rw length-set (omega arith)))

pub take-sets : (l vs : List ℕ) → length vs ≤ length l → take (length vs) (sets l 0 vs) ≡ vs
take-sets l vs h =
    let z : 0 + length vs ≡ length vs = omega arith in
    rw (sets-eq vs l 0 (rw z h)) (take_at vs (drop (0 + length vs) l) (length vs) refl)
