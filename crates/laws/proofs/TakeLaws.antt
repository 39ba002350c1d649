-- The front of a list.
use Prim.Native.Nat.{ℕ, ◌≤◌}
use mathlib.Core.Path.{◌≡◌, sym, ◌∙◌}
use mathlib.Core.List.{List}
use native.Mathlib.Nat.{min-eq_left}
use lib.ListN.{length, take, length-take}

-- as it is asked of a part that is lent
pub take_counts : {A : Type 0} (n : ℕ) (xs : List A) → n ≤ length xs → n ≡ length (take n xs)
take_counts n xs h = sym (length-take n xs ∙ min-eq_left h)
