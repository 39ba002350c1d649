-- A lookup in the groups of the pairs finds the listed glyph of every listed code point, and nothing at any other.
use Rattle.std.specs.Prelude.{Option, Some, None}
use Prim.Native.Nat.{ℕ, suc, ◌+◌, ◌-◌, ◌≤◌, ◌<◌}
use mathlib.Core.Path.{◌≡◌, refl, sym, ap, ◌∙◌}
use mathlib.Core.List.{List, [], ◌∷◌, ◌++◌, map}
use native.Mathlib.Omega.{arith}
use borrow.Author.Tests.{le-leb, lt-leb, eq-eqb, ne_eqb}
use lib.Dec.{leb}
use lib.ListN.{length, get_or}
use Rattle.laws.specs.Choice.{pick, if_lt}
use Rattle.laws.specs.Lists.{Pair, pairs, Rising}
use Rattle.laws.specs.Listed.{listed_as}
use Rattle.laws.specs.Pieces.{concat}
use Rattle.laws.proofs.ChoiceLaws.{by_leb, if_lt_lem, else_lt}
use Rattle.laws.proofs.RisingLaws.{rising_tail}
use Rattle.laws.proofs.PiecesLaws.{Joined, lone, more, concat-pieces}
use Rattle.laws.proofs.PartedLaws.{Parted, parted_none, parted_last, parted_more, pieces_parted}
use Rattle.number.specs.Limits.{unicode_max}
use Rattle.format12.specs.declared.Group.{Group}
use Rattle.format12.specs.Format12.{consecutive, group, group_of, grouped, groups}
use Rattle.format12.proofs.GroupsLaws.{consecutive_next, joined_level, last_joined}
use Rattle.format12_lookup.specs.Lookup.{Above, above_none, above_more}

-- ---- a lookup in a list of groups

-- what a group whose end is at least c gives
unfoldable pub in_group : Group → ℕ → Option ℕ
in_group g c =
    let there = g.glyph + (c - g.start) in
    if_lt c g.start None (if_lt 65535 there None (Some there))

-- the first group whose end is at least c
unfoldable pub lookup_in : List Group → ℕ → Option ℕ
lookup_in [] c = None
lookup_in (g ∷ gs) c = let r = lookup_in gs c in pick (leb c g.end) (in_group g c) r

-- ---- rising pairs

-- two columns of code points and glyphs within their limits
pub above_pairs : (lo : ℕ) (cs gs : List ℕ) → Rising cs → (0 < length cs → lo ≤ get_or cs 0 0) → ((k : ℕ) → get_or cs k 0 ≤ unicode_max) → ((k : ℕ) → get_or gs k 0 ≤ 65535) → Above lo (pairs cs gs)
above_pairs lo [] gs r l m n = above_none
above_pairs lo (c ∷ cs) [] r l m n = above_none
above_pairs lo (c ∷ cs) (g ∷ gs) r l m n =
    above_more (l (omega arith)) (m 0) (n 0) (above_pairs (suc c) cs gs (rising_tail r) (λ h. r.climbs 0 (omega (arith, h))) (λ k. m (suc k)) (λ k. n (suc k)))

-- what is known of the first of them
pub record First (lo : ℕ) (p : Pair) (ps : List Pair) : Type 0 where
  pub low : lo ≤ p.0
  pub high : p.0 ≤ unicode_max
  pub glyph : p.1 ≤ 65535
  pub rest : Above (suc p.0) ps

pub above_first : {lo : ℕ} {p : Pair} {ps : List Pair} → Above lo (p ∷ ps) → First lo p ps
above_first (above_more a b c r) = record { low = a; high = b; glyph = c; rest = r }

-- ---- rows of consecutive pairs

-- what follows a row lies above it
pub row_rest : {lo : ℕ} {x l : Pair} {xs rest : List Pair} → Joined consecutive x xs l → Above lo ((x ∷ xs) ++ rest) → First 0 l rest
row_rest lone a = let f = above_first a in record { low = omega arith; high = f.high; glyph = f.glyph; rest = f.rest }
row_rest (more e j) a = row_rest j (above_first a).rest

module _ (c : ℕ) where
  listed_below : {lo : ℕ} {ps : List Pair} → Above lo ps → c < lo → listed_as None Some ps c ≡ None
  unfolding listed_as
  listed_below above_none h = refl
  listed_below (above_more {p} a b d r) h = rw (ne_eqb p.0 c (λ e. omega arith)) (listed_below r (omega arith))

  -- past a row
  row_past : {x l : Pair} {xs : List Pair} (rest : List Pair) → Joined consecutive x xs l → l.0 < c → listed_as None Some ((x ∷ xs) ++ rest) c ≡ listed_as None Some rest c
  unfolding listed_as
  row_past {x} rest lone h = rw (ne_eqb x.0 c (λ e. omega arith))
  row_past {x} rest (more e j) h = rw (ne_eqb x.0 c (λ d. omega (arith, (joined_level (more e j)).up, h, d))) (row_past rest j h)

  -- in a row
  row_in : {x l : Pair} {xs : List Pair} (rest : List Pair) → Joined consecutive x xs l → x.0 ≤ c → c ≤ l.0 → listed_as None Some ((x ∷ xs) ++ rest) c ≡ Some (x.1 + (c - x.0))
  unfolding listed_as
  row_in {x} rest lone a b =
      let e : x.1 ≡ x.1 + (c - x.0) = omega arith in
      rw (eq-eqb x.0 c (omega arith)) (ap Some e)
  row_in {x} {l} rest (more {y} {ys} e j) a b =
      let n = consecutive_next x y e in
      by_leb (listed_as None Some ((x ∷ y ∷ ys) ++ rest) c ≡ Some (x.1 + (c - x.0))) c x.0
      (λ h. let d : x.1 ≡ x.1 + (c - x.0) = omega (arith, h) in rw (eq-eqb x.0 c (omega (arith, a, h))) (ap Some d))
      (λ h. let d : y.1 + (c - y.0) ≡ x.1 + (c - x.0) = omega (arith, n.code, n.glyph, h) in rw (ne_eqb x.0 c (λ q. omega (arith, h, q))) (row_in rest j (omega (arith, n.code, h)) b ∙ ap Some d))

  -- in a row or before it
  row_group : {lo : ℕ} {x l : Pair} {xs : List Pair} (rest : List Pair) → Joined consecutive x xs l → Above lo ((x ∷ xs) ++ rest) → c ≤ l.0
      → in_group (group x.0 l.0 x.1) c ≡ listed_as None Some ((x ∷ xs) ++ rest) c
  unfolding in_group
  row_group {lo} {x} {l} {xs} rest j a h =
      let f = above_first a in
      let v = joined_level j in
      let t = row_rest j a in
      let there = x.1 + (c - x.0) in
      by_leb (if_lt c x.0 None (if_lt 65535 there None (Some there)) ≡ listed_as None Some ((x ∷ xs) ++ rest) c) x.0 c
      (λ k. sym (else_lt c x.0 None (if_lt 65535 there None (Some there)) k (else_lt 65535 there None (Some there) (omega (arith, v.same, v.up, t.glyph, h, k)) (row_in rest j k h))))
      (λ k. sym (if_lt_lem c x.0 None (if_lt 65535 there None (Some there)) k (listed_below (above_more {lo = x.0} (omega arith) f.high f.glyph f.rest) k)))

  -- one group more
  row_found : {lo : ℕ} {x l : Pair} {xs : List Pair} (rest : List Pair) (gs : List Group) → Joined consecutive x xs l → Above lo ((x ∷ xs) ++ rest)
      → lookup_in gs c ≡ listed_as None Some rest c → lookup_in (group_of (x ∷ xs) ∷ gs) c ≡ listed_as None Some ((x ∷ xs) ++ rest) c
  unfolding lookup_in
  row_found {lo} {x} {l} {xs} rest gs j a e =
      rw (last_joined j)
      (by_leb (pick (leb c l.0) (in_group (group x.0 l.0 x.1) c) (lookup_in gs c) ≡ listed_as None Some ((x ∷ xs) ++ rest) c) c l.0
      (λ h. rw (le-leb c l.0 h) (row_group rest j a h))
      (λ h. rw (lt-leb c l.0 h) (e ∙ sym (row_past rest j h))))

  rows_found : {lo : ℕ} {rows : List (List Pair)} → Parted consecutive rows → Above lo (concat rows) → lookup_in (map group_of rows) c ≡ listed_as None Some (concat rows) c
  unfolding concat lookup_in listed_as
  rows_found parted_none a = refl
  rows_found (parted_last j) a = row_found [] [] j a refl
  rows_found (parted_more {y} {ys} {ps} j d p) a = row_found ((y ∷ ys) ++ concat ps) (map group_of ((y ∷ ys) ∷ ps)) j a (rows_found p (row_rest j a).rest)

  -- every number: the listed glyph, or nothing
  pub lookup_groups : {ps : List Pair} → Above 0 ps → lookup_in (groups ps) c ≡ listed_as None Some ps c
  unfolding grouped
  lookup_groups {ps} a =
      rw (concat-pieces consecutive ps) at (rows_found {lo = 0} (pieces_parted consecutive ps) (rw (concat-pieces consecutive ps) a))
