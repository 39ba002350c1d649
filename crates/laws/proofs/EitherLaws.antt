-- Tests joined: what is told where the whole fails.
use mathlib.Core.Path.{◌≡◌, refl, sym}
use mathlib.Core.Bool.{Bool, true, false, not}
use Rattle.laws.specs.Choice.{both, either}
use Rattle.laws.proofs.ChoiceLaws.{false-true}

pub not-false : (b : Bool) → (b ≡ false → ⊥) → b ≡ true
not-false true h = refl
not-false false h = absurd (h refl)

pub true_of_not : (b : Bool) → not b ≡ false → b ≡ true
true_of_not true e = refl
true_of_not false e = absurd (false-true (sym e))

pub neither_left : (a b : Bool) → either a b ≡ false → a ≡ false
neither_left true b e = e
neither_left false b e = refl

pub neither_right : (a b : Bool) → either a b ≡ false → b ≡ false
neither_right true b e = absurd (false-true (sym e))
neither_right false b e = e

pub both_none : (a b c : Bool) → both a b ≡ false → both a (both b c) ≡ false
both_none true b c e = rw e
both_none false b c e = refl

pub both_neither : (a b c : Bool) → both a b ≡ false → both a c ≡ false → both a (either b c) ≡ false
both_neither true true c e f = e
both_neither true false c e f = f
both_neither false b c e f = refl

pub either_none : (a : Bool) → either a false ≡ a
either_none true = refl
either_none false = refl
