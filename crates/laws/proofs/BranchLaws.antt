-- Two choices by one test: they agree where each branch does, which need be only where the choice comes to it.
use Prim.Native.Nat.{ℕ, ◌<◌, ◌≤◌}
use mathlib.Core.Path.{◌≡◌, refl}
use mathlib.Core.Bool.{Bool, true, false}
use lib.Dec.{ltb}
use borrow.Author.Tests.{ltb-true, ltb-false}
use Rattle.laws.specs.Choice.{pick, if_lt}

pub pick_both : {A : Type 0} (t : Bool) (a a' b b' : A) → (t ≡ true → a ≡ a') → (t ≡ false → b ≡ b') → pick t a b ≡ pick t a' b'
pick_both true a a' b b' f g = f refl
pick_both false a a' b b' f g = g refl

pub if_lt_same : {A : Type 0} (a b : ℕ) (x y x' y' : A) → (a < b → x ≡ x') → (b ≤ a → y ≡ y') → if_lt a b x y ≡ if_lt a b x' y'
unfolding if_lt
if_lt_same a b x y x' y' f g = pick_both (ltb a b) x x' y y' (λ e. f (ltb-true a b e)) (λ e. g (ltb-false a b e))
