-- The front of a list: stores there, stores made again, and a rising list's first number.
use Prim.Native.Nat.{ℕ, suc, ◌+◌, ◌<◌, ◌≤◌}
use mathlib.Core.Path.{◌≡◌, refl, ◌∙◌}
use mathlib.Core.List.{List, [], ◌∷◌, ◌++◌}
use native.Mathlib.Omega.{arith}
use lib.ListN.{length, get_or, drop, set}
use lib.Seq.{sets, sets-eq, set-set}
use Rattle.laws.specs.Lists.{Rising}
use Rattle.laws.proofs.RisingLaws.{rising_lt}
use Rattle.laws.proofs.SetsCommLaws.{set-sets}

-- ---- stores

pub sets_front : (l vs : List ℕ) → length vs ≤ length l → sets l 0 vs ≡ vs ++ drop (length vs) l
sets_front l vs h =
    let z : 0 + length vs ≡ length vs = omega arith in
    sets-eq vs l 0 (rw z h) ∙ rw z

-- a run of stores over another of the same length
pub sets_over : (l : List ℕ) (i : ℕ) (vs ws : List ℕ) → length vs ≡ length ws → sets (sets l i vs) i ws ≡ sets l i ws
sets_over l i [] [] h = refl
sets_over l i [] (w ∷ ws) h = absurd (omega arith)
sets_over l i (v ∷ vs) [] h = absurd (omega arith)
sets_over l i (v ∷ vs) (w ∷ ws) h =
    rw (set-sets vs (set l i v) (suc i) i w (omega arith), set-set l i v w) (sets_over (set l i w) (suc i) vs ws (omega arith))

-- ---- rising lists

-- the rest lies above the first
pub rising_above : {x : ℕ} {xs : List ℕ} → Rising (x ∷ xs) → (i : ℕ) → i < length xs → x < get_or xs i 0
rising_above r i h = rising_lt r 0 (suc i) (omega arith) (omega arith)
