-- Stores at places apart may be made in either order, so that a run may be written before one that stands behind it.
use Prim.Native.Nat.{ℕ, suc, ◌+◌, ◌<◌, ◌≤◌}
use mathlib.Core.Path.{◌≡◌, refl, ap, ◌∙◌}
use mathlib.Core.List.{List, [], ◌∷◌, ◌++◌}
use native.Mathlib.Omega.{arith}
use lib.ListN.{length, set}
use lib.Seq.{sets, set_comm}
use Rattle.laws.proofs.SetsLaws.{sets-append}

pub set-sets : (vs l : List ℕ) (i j a : ℕ) → j < i → set (sets l i vs) j a ≡ sets (set l j a) i vs
set-sets [] l i j a h = refl
set-sets (v ∷ vs) l i j a h =
    set-sets vs (set l i v) (suc i) j a (omega arith)
    ∙ ap (λ m. sets m (suc i) vs) (set_comm l i j v a (λ e. omega arith))

pub sets_comm : (us l : List ℕ) (i j : ℕ) (vs : List ℕ) → j + length us ≤ i → sets (sets l i vs) j us ≡ sets (sets l j us) i vs
sets_comm [] l i j vs h = refl
sets_comm (u ∷ us) l i j vs h =
    ap (λ m. sets m (suc j) us) (set-sets vs l i j u (omega arith))
    ∙ sets_comm us (set l j u) i (suc j) vs (omega arith)

-- a run written right before another
pub sets_before : (l us vs : List ℕ) (i j : ℕ) → j + length us ≡ i → sets (sets l i vs) j us ≡ sets l j (us ++ vs)
sets_before l us vs i j e = sets_comm us l i j vs (omega arith) ∙ rw (← e) (sets-append l j us vs)
