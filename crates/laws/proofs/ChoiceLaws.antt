-- What a test tells, and which way a choice goes.
use Prim.Native.Nat.{ℕ, ◌<◌, ◌≤◌}
use mathlib.Core.Path.{◌≡◌, refl, sym, subst, ◌∙◌}
use mathlib.Core.Logic.{◌⊎◌, inl, inr}
use mathlib.Core.Bool.{Bool, true, false}
use lib.Dec.{T, leb, ltb}
use borrow.Author.Tests.{ltb-true, ltb-false, leb-true, leb-false, lt-ltb, le-ltb, le-leb, lt-leb, eq-eqb, ne_eqb}
use Rattle.laws.specs.Choice.{pick, both, either, if_lt, if_le, if_eq}

-- ---- tests

pub false-true : false ≡ true → ⊥
false-true e = subst T (sym e) tt

pub not-true : (b : Bool) → (b ≡ true → ⊥) → b ≡ false
not-true true h = absurd (h refl)
not-true false h = refl

pub both_left : (a b : Bool) → both a b ≡ true → a ≡ true
both_left true b e = refl
both_left false b e = e

pub both_right : (a b : Bool) → both a b ≡ true → b ≡ true
both_right true b e = e
both_right false b e = absurd (false-true e)

pub either_cases : (a b : Bool) → either a b ≡ true → (a ≡ true) ⊎ (b ≡ true)
either_cases true b e = inl refl
either_cases false b e = inr e

pub lt_or_le : (a b : ℕ) → (a < b) ⊎ (b ≤ a)
lt_or_le a b = go (ltb a b) refl
  where
    go : (t : Bool) → ltb a b ≡ t → (a < b) ⊎ (b ≤ a)
    go true e = inl (ltb-true a b e)
    go false e = inr (ltb-false a b e)

-- two tests that hold together and fail together are one
pub leb_same : (a b p q : ℕ) → (a ≤ b → p ≤ q) → (b < a → q < p) → leb a b ≡ leb p q
leb_same a b p q f g = go (leb a b) refl
  where
    go : (t : Bool) → leb a b ≡ t → leb a b ≡ leb p q
    go true e = e ∙ sym (le-leb p q (f (leb-true a b e)))
    go false e = e ∙ sym (lt-leb p q (g (leb-false a b e)))

-- where a definition goes by the tests of the code, `search tests` finds each test's way
pub ruleset tests = (eq-eqb, ne_eqb, lt-ltb, le-ltb, le-leb, lt-leb)

-- ---- choices

pub pick_cases : {A : Type 0} (b : Bool) (x y : A) {z : A} → pick b x y ≡ z → (x ≡ z) ⊎ (y ≡ z)
pick_cases true x y e = inl e
pick_cases false x y e = inr e

pub pick_same : {A : Type 0} (b : Bool) (x : A) → pick b x x ≡ x
pick_same true x = refl
pick_same false x = refl

-- what holds of each of two, where its test says so, holds of the choice
pub by_pick : {A : Type 0} (P : A → Type 0) (t : Bool) (a b : A) → (t ≡ true → P a) → (t ≡ false → P b) → P (pick t a b)
by_pick P true a b f g = f refl
by_pick P false a b f g = g refl

-- by the two ways of a test
pub by_test : (P : Type 0) (t : Bool) → (t ≡ true → P) → (t ≡ false → P) → P
by_test P true f g = f refl
by_test P false f g = g refl

pub by_leb : (P : Type 0) (a b : ℕ) → (a ≤ b → P) → (b < a → P) → P
by_leb P a b f g = go (leb a b) refl
  where
    go : (t : Bool) → leb a b ≡ t → P
    go true e = f (leb-true a b e)
    go false e = g (leb-false a b e)

-- a choice by two numbers, a rule for each way
module _ {A : Type 0} {z : A} (a b : ℕ) (x y : A) where
  pub if_lt_lem : a < b → z ≡ x → z ≡ if_lt a b x y
  unfolding if_lt
  if_lt_lem h e = rw (lt-ltb a b h) e

  pub else_lt : b ≤ a → z ≡ y → z ≡ if_lt a b x y
  unfolding if_lt
  else_lt h e = rw (le-ltb a b h) e

  pub if_le_lem : a ≤ b → z ≡ x → z ≡ if_le a b x y
  unfolding if_le
  if_le_lem h e = rw (le-leb a b h) e

  pub else_le : b < a → z ≡ y → z ≡ if_le a b x y
  unfolding if_le
  else_le h e = rw (lt-leb a b h) e

  pub if_eq_lem : a ≡ b → z ≡ x → z ≡ if_eq a b x y
  unfolding if_eq
  if_eq_lem h e = rw (eq-eqb a b h) e

  pub else_eq : (a ≡ b → ⊥) → z ≡ y → z ≡ if_eq a b x y
  unfolding if_eq
  else_eq h e = rw (ne_eqb a b h) e

pub ruleset choices = (if_lt_lem, else_lt, if_le_lem, else_le, if_eq_lem, else_eq)

-- tests asked one after the other: t is the code's own answer for a
module _ (a b t : Bool) where
  pub either_first : t ≡ a → t ≡ true → true ≡ either a b
  either_first q e = rw (← q, e)

  pub either_then : (r : Bool) → t ≡ a → t ≡ false → r ≡ b → r ≡ either a b
  either_then r q e h = rw (← q, e) h

pub ruleset one_of_lem = (either_first, either_then)

-- tests that must all hold: t is the code's own answer for a
module _ (a b t : Bool) where
  pub both_first : t ≡ a → t ≡ false → false ≡ both a b
  both_first q e = rw (← q, e)

  pub both_then : (r : Bool) → t ≡ a → t ≡ true → r ≡ b → r ≡ both a b
  both_then r q e h = rw (← q, e) h

pub ruleset all_of = (both_first, both_then)

-- ---- cases one after the other: t is the code's own answer for b

module _ (b t : Bool) (n r : ℕ) where
  pub case_first : t ≡ b → t ≡ true → n ≡ pick b n r
  case_first q e = rw (← q, e)

  pub case_then : (m : ℕ) → t ≡ b → t ≡ false → m ≡ r → m ≡ pick b n r
  case_then m q e h = rw (← q, e) h

pub no_case : ◌≡◌ {A = ℕ} 0 0
no_case = refl

pub ruleset cases = (case_first, case_then, no_case)
