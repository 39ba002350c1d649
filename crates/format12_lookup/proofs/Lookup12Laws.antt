-- Every number looked up in the bytes of the written subtable gives the listed glyph, or nothing.
use Rattle.std.specs.Prelude.{Some, None}
use Prim.Native.Nat.{ℕ, suc, ◌<◌}
use mathlib.Core.Path.{◌≡◌, refl, sym, ap, ◌∙◌}
use mathlib.Core.List.{List, [], ◌∷◌}
use mathlib.Core.Bool.{Bool}
use native.Mathlib.Omega.{arith}
use lib.Dec.{leb}
use lib.ListN.{length, get_or}
use Rattle.laws.specs.Choice.{if_lt}
use Rattle.laws.specs.Lists.{Pair}
use Rattle.laws.specs.Listed.{listed_as}
use Rattle.laws.specs.Search.{first}
use Rattle.laws.proofs.BranchLaws.{if_lt_same}
use Rattle.laws.proofs.ChoiceLaws.{by_leb, if_lt_lem, else_lt}
use Rattle.laws.proofs.TestLaws.{if_lt-suc}
use Rattle.laws.proofs.FirstLaws.{first-suc, first_ext}
use borrow.Author.Tests.{le-leb, lt-leb}
use Rattle.source.specs.Fields.{end_char_code}
use Rattle.heads_lookup.specs.Lookup as lookup
use Rattle.format12.specs.Format12.{group, groups, format12}
use Rattle.format12.specs.declared.Group.{Group}
use Rattle.format12_lookup.specs.Lookup.{Above}
use Rattle.format12_lookup.proofs.LookupLaws.{in_group, lookup_in, lookup_groups}
use Rattle.format12_lookup.proofs.BytesLaws.{group_at, format12_group}

module _ (c : ℕ) (d : Group) where
  -- the k-th group's end reaches c
  abbrev reaches : List Group → ℕ → Bool
  reaches gs k = leb c (get_or gs k d).end

  lookup_first : (gs : List Group) → lookup_in gs c
      ≡ if_lt (first (reaches gs) (length gs) 0) (length gs) (in_group (get_or gs (first (reaches gs) (length gs) 0) d) c) None
  unfolding lookup_in first
  lookup_first [] = else_lt 0 0 (in_group d c) None (omega arith) refl
  lookup_first (g ∷ gs) =
      let k = first (reaches gs) (length gs) 0 in
      rw (first-suc (reaches (g ∷ gs)) (length gs) 0)
      (by_leb _ c g.end
      (λ h. rw (le-leb c g.end h) (if_lt_lem 0 (suc (length gs)) (in_group g c) None (omega arith) refl))
      (λ h. rw (lt-leb c g.end h) (lookup_first gs ∙ sym (if_lt-suc k (length gs) (in_group (get_or gs k d) c) None))))

  group_same : (xs : List ℕ) (at k : ℕ) → lookup.in_group xs at k c ≡ in_group (group_at xs at k) c
  unfolding lookup.in_group in_group
  group_same xs at k = refl

  -- where the bytes hold these groups
  bytes_lookup : (xs : List ℕ) (at : ℕ) (gs : List Group) → ((k : ℕ) → k < length gs → group_at xs at k ≡ get_or gs k d) → lookup.find12 xs at (length gs) c ≡ lookup_in gs c
  unfolding lookup.find12
  bytes_lookup xs at gs h =
      let n = length gs in
      let k = first (reaches gs) n 0 in
      let e : first (lookup.reaches (end_char_code xs at) c) n 0 ≡ k = first_ext _ _ n 0 (λ i a b. ap (λ (g : Group). leb c g.end) (h i (omega (arith, b)))) in
      rw (e, lookup_first gs)
      (if_lt_same k n (lookup.in_group xs at k c) None (in_group (get_or gs k d) c) None (λ l. group_same xs at k ∙ rw (h k l)) (λ l. refl))

pub format12-lookup : (language : ℕ) (ps : List Pair) (c : ℕ) → Above 0 ps → lookup.find12 (format12 language ps) 0 (length (groups ps)) c ≡ listed_as None Some ps c
format12-lookup language ps c a =
    let d = group 0 0 0 in
    bytes_lookup c d (format12 language ps) 0 (groups ps) (λ k h. format12_group language ps a k d h) ∙ lookup_groups c a
