-- Tests that answer alike.
use Prim.Native.Nat.{ℕ, suc}
use mathlib.Core.Path.{◌≡◌, refl, sym, ◌∙◌}
use mathlib.Core.Bool.{Bool, true, false}
use native.Mathlib.Omega.{arith}
use Rattle.laws.specs.Choice.{both, if_lt}
use Rattle.laws.proofs.ChoiceLaws.{by_leb, if_lt_lem, else_lt}

-- the second test need be alike only where the first holds
pub both_same : (a b c : Bool) → (a ≡ true → b ≡ c) → both a b ≡ both a c
both_same true b c f = f refl
both_same false b c f = refl

pub if_lt-suc : {A : Type 0} (a b : ℕ) (x y : A) → if_lt (suc a) (suc b) x y ≡ if_lt a b x y
if_lt-suc a b x y =
    by_leb (if_lt (suc a) (suc b) x y ≡ if_lt a b x y) b a
    (λ h. sym (else_lt (suc a) (suc b) x y (omega (arith, h)) refl) ∙ else_lt a b x y h refl)
    (λ h. sym (if_lt_lem (suc a) (suc b) x y (omega (arith, h)) refl) ∙ if_lt_lem a b x y h refl)
