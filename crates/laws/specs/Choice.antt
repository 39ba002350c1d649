-- A choice by a test, and tests joined.
use Rattle.std.specs.Prelude.{ℕ, Bool, true, false, ltb, leb, eqb}

abbrev pub pick : {A : Type 0} → Bool → A → A → A
pick true a b = a
pick false a b = b

-- x if a is below b, at most b, or equal to b; else y. These stay shut: a proof goes by their rules, `if_lt_lem`, `else_lt` and so on.
unfoldable pub if_lt : {A : Type 0} → ℕ → ℕ → A → A → A
if_lt a b x y = pick (ltb a b) x y

unfoldable pub if_le : {A : Type 0} → ℕ → ℕ → A → A → A
if_le a b x y = pick (leb a b) x y

unfoldable pub if_eq : {A : Type 0} → ℕ → ℕ → A → A → A
if_eq a b x y = pick (eqb a b) x y

abbrev pub both : Bool → Bool → Bool
both true b = b
both false b = false

abbrev pub either : Bool → Bool → Bool
either true b = true
either false b = b
