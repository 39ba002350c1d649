-- A count over the two columns, run by run: what is left, done from here, gives the whole. And how long the groups' bytes are.
use Prim.Native.Nat.{ℕ, ◌+◌, ◌*◌, ◌≤◌}
use mathlib.Core.Path.{◌≡◌, refl, ap}
use mathlib.Core.List.{List, [], ◌∷◌}
use native.Mathlib.Nat.{zero-add}
use native.Mathlib.Omega.{arith}
use lib.ListN.{length}
use Rattle.laws.specs.Lists.{pairs}
use Rattle.lists_runs.specs.Runs.{RunEndsAt}
use Rattle.number.specs.Row.{encs}
use Rattle.number.proofs.RowLaws.{length-encs}
use Rattle.format12.specs.declared.Group.{Group}
use Rattle.format12.specs.Format12.{groups, fields, Columns}
use Rattle.format12.proofs.RunLaws.{ahead, ahead_end, ahead_run}

-- ---- counting

pub record Counting (cs gs : List ℕ) (n i : ℕ) : Type 0 where
  pub within : i ≤ length cs
  pub few : n ≤ i
  pub left : n + length (ahead cs gs i) ≡ length (groups (pairs cs gs))

module _ (cs gs : List ℕ) where
  pub counting_start : Counting cs gs 0 0
  counting_start = record { within = omega arith; few = omega arith; left = zero-add _ }

  module _ (n i : ℕ) (r : Counting cs gs n i) where
    pub counting_on : (j : ℕ) → Columns cs gs → RunEndsAt cs gs i j → Counting cs gs (n + 1) j
    counting_on j w x = record {
      within = x.within;
      few = omega (arith, r.few, x.behind);
      left = omega (arith, r.left, ap length (ahead_run cs gs w i j x));
    }

    pub counting_done : length cs ≤ i → n ≡ length (groups (pairs cs gs))
    counting_done h = omega (arith, r.left, ap length (ahead_end cs gs i h))

pub ruleset counting = (counting_start, counting_on, counting_done)

-- ---- the bytes

pub length_fields : (gs : List Group) → length (fields gs) ≡ 3 * length gs
length_fields [] = refl
length_fields (g ∷ gs) = omega (arith, length_fields gs)

pub length_group_bytes : (gs : List Group) → length (encs 4 (fields gs)) ≡ 12 * length gs
length_group_bytes gs = omega (arith, length-encs 4 (fields gs), length_fields gs)
