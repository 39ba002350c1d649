-- Which mappings stay: the code's answers are the definition's.
use Prim.Native.Nat.{ℕ, ◌+◌, ◌-◌, ◌<◌, ◌≤◌}
use mathlib.Core.Path.{◌≡◌, refl}
use mathlib.Core.List.{List, [], ◌∷◌}
use mathlib.Core.Bool.{Bool, true, false}
use native.Mathlib.Omega.{arith}
use lib.ListN.{length, get_or}
use Rattle.lists_marks.specs.Marks.{holds, Bound}
use Rattle.lists_marks.proofs.BelowLaws.{below_past, below_upto}
use Rattle.number.specs.BigEndian.{be, Num}
use Rattle.laws.specs.Lists.{Rising}
use Rattle.format14_uvs.specs.NonDefault.{mapping, keeps_mapping}

-- ---- the kept points below a code point

-- the points up to i are below c, and the one at i is not
module _ (ps : List ℕ) (c i : ℕ) (r : Rising ps) (h : i < length ps) (e : c ≤ get_or ps i 0) where
  pub bound_first : i ≡ 0 → Bound ps c 0
  bound_first z = record { is = omega (arith, below_upto ps c i r h e); within = omega arith }

  pub bound_here : (i ≡ 0 → ⊥) → get_or ps (i - 1) 0 < c → Bound ps c i
  bound_here z l = record { is = omega (arith, below_upto ps c i r h e, below_past ps c (i - 1) r (omega arith) l); within = omega arith }

pub ruleset bounds = (bound_first, bound_here)

-- ---- keeps_mapping

module _ (xs : List ℕ) (place : ℕ) (kept requested : List ℕ) (c : ℕ) (b : Bool) (n : Num 3 xs place c) (e : b ≡ holds kept c) where
  pub keeps_kept : b ≡ true → true ≡ keeps_mapping kept requested (mapping xs place)
  unfolding keeps_mapping
  keeps_kept t = rw (← n.is, ← e, t)

  pub keeps_none : b ≡ false → length requested ≡ 0 → false ≡ keeps_mapping kept requested (mapping xs place)
  unfolding keeps_mapping holds
  keeps_none t z = rw (← n.is, ← e, t) (none requested z)
    where
      none : (gs : List ℕ) → length gs ≡ 0 → false ≡ holds gs (be 2 xs (place + 3))
      none [] z = refl
      none (g ∷ gs) z = absurd (omega arith)

  pub keeps_asked : b ≡ false → (g : ℕ) (d : Bool) → Num 2 xs (place + 3) g → d ≡ holds requested g
      → d ≡ keeps_mapping kept requested (mapping xs place)
  unfolding keeps_mapping
  keeps_asked t g d m h = rw (← n.is, ← e, t, ← m.is) h

pub ruleset keeps_rules = (keeps_kept, keeps_none, keeps_asked)
