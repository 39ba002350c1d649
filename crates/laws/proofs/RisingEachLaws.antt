-- A rising list, each number below all that follow it.
use Prim.Native.Nat.{ℕ, suc, ◌<◌}
use native.Mathlib.Omega.{arith}
use mathlib.Core.List.{List, [], ◌∷◌, ◌++◌}
use Rattle.laws.specs.Lists.{Rising}
use Rattle.laws.specs.Linked.{Each}
use Rattle.laws.proofs.RisingLaws.{rising_lt, rising_tail}
use Rattle.laws.proofs.EachLaws.{each_get_or}

abbrev pub Climbs : List ℕ → Type 0
Climbs [] = Unit {0}
Climbs (x ∷ xs) = Each (λ (y : ℕ). x < y) xs × Climbs xs

pub rising_climbs : (xs : List ℕ) → Rising xs → Climbs xs
rising_climbs [] r = tt
rising_climbs (x ∷ xs) r = (each_get_or (λ (y : ℕ). x < y) 0 xs (λ i h. rising_lt r 0 (suc i) (omega arith) (omega arith)), rising_climbs xs (rising_tail r))

pub climbs_right : (xs ys : List ℕ) → Climbs (xs ++ ys) → Climbs ys
climbs_right [] ys h = h
climbs_right (x ∷ xs) ys h = climbs_right xs ys h.1
