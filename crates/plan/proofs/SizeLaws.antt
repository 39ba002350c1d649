-- What it tells of an outcome that it is "made", or is not.
use Prim.Native.Nat.{◌≤◌}
use mathlib.Core.Path.{◌≡◌, refl, sym}
use mathlib.Core.Bool.{true, false}
use native.Mathlib.Omega.{arith}
use Rattle.laws.proofs.ChoiceLaws.{false-true}
use Rattle.plan.specs.declared.Outcome.{Outcome}
use Rattle.plan.specs.declared.Outcome.TheVariants.{LeftOut, BadMapping, Served, Made}
use Rattle.plan.specs.Outcomes.{is_made}
use Rattle.plan.specs.Sizes.{made_size, held_in}

pub made_size_lem : (o : Outcome) → is_made o ≡ true → o ≡ Made (made_size o)
made_size_lem (LeftOut why) e = absurd (false-true e)
made_size_lem BadMapping e = absurd (false-true e)
made_size_lem (Served r) e = absurd (false-true e)
made_size_lem (Made n) e = refl

pub unmade_size : (o : Outcome) → is_made o ≡ false → made_size o ≡ 0
unmade_size (LeftOut why) e = refl
unmade_size BadMapping e = refl
unmade_size (Served r) e = refl
unmade_size (Made n) e = absurd (false-true (sym e))

pub size_held : (o : Outcome) → made_size o ≤ held_in o
size_held (LeftOut why) = omega arith
size_held BadMapping = omega arith
size_held (Served r) = omega arith
size_held (Made n) = omega arith
