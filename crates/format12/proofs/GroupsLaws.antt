-- Consecutive pairs, and how many groups there are.
use Prim.Native.Nat.{ℕ, ◌+◌, ◌≤◌}
use mathlib.Core.Path.{◌≡◌, refl}
use mathlib.Core.List.{List}
use mathlib.Core.Bool.{true}
use native.Mathlib.Omega.{arith}
use borrow.Author.Tests.{eqb-true}
use lib.ListN.{length}
use lib.Dec.{eqb}
use Rattle.laws.specs.Lists.{Pair, pairs}
use Rattle.laws.specs.Pieces.{pieces}
use Rattle.laws.proofs.ChoiceLaws.{both_left, both_right}
use Rattle.laws.proofs.PiecesLaws.{Joined, lone, more}
use Rattle.laws.proofs.LengthLaws.{length-map, length_pairs}
use Rattle.laws.proofs.PartedLaws.{length-pieces}
use Rattle.format12.specs.Format12.{consecutive, last_of, group_of, grouped, groups}

-- ---- consecutive pairs

pub record Next (p q : Pair) : Type 0 where
  pub code : q.0 ≡ p.0 + 1
  pub glyph : q.1 ≡ p.1 + 1

pub consecutive_next : (p q : Pair) → consecutive p q ≡ true → Next p q
unfolding consecutive
consecutive_next p q e = record {
  code = eqb-true _ _ (both_left (eqb q.0 (p.0 + 1)) (eqb q.1 (p.1 + 1)) e);
  glyph = eqb-true _ _ (both_right (eqb q.0 (p.0 + 1)) (eqb q.1 (p.1 + 1)) e);
}

-- in a row of consecutive pairs the last code point is as far from the first as the last glyph from the first
pub record Level (x l : Pair) : Type 0 where
  pub up : x.0 ≤ l.0
  pub same : l.0 + x.1 ≡ x.0 + l.1

pub joined_level : {x l : Pair} {xs : List Pair} → Joined consecutive x xs l → Level x l
joined_level lone = record { up = omega arith; same = omega arith }
joined_level (more {x} {y} {l} e j) =
    let n = consecutive_next x y e in
    let v = joined_level j in
    record { up = omega (arith, n.code, v.up); same = omega (arith, n.code, n.glyph, v.same) }

pub last_joined : {x l : Pair} {xs : List Pair} → Joined consecutive x xs l → last_of x xs ≡ l
last_joined lone = refl
last_joined (more e j) = last_joined j

-- ---- how many there are

pub length-groups : (cs gs : List ℕ) → length (groups (pairs cs gs)) ≤ length cs
unfolding grouped
length-groups cs gs = omega (arith, length-map group_of (pieces consecutive (pairs cs gs)), length-pieces consecutive (pairs cs gs), length_pairs cs gs)
