-- A lookup reads its own subtable alone: where a subtable stands in a source, it gives what it gives by itself.
use Prim.Native.Nat.{ℕ, ◌+◌, ◌*◌, ◌-◌, ◌/◌, ◌≤◌, ◌<◌}
use mathlib.Core.Path.{◌≡◌, refl, ap}
use mathlib.Core.List.{List}
use native.Mathlib.Omega.{arith}
use lib.Dec.{leb}
use lib.ListN.{length}
use Rattle.laws.proofs.BranchLaws.{if_lt_same}
use Rattle.laws.proofs.FirstLaws.{first_ext}
use Rattle.laws.proofs.StandsLaws.{Stands}
use Rattle.number.proofs.StandsLaws.{be_stands}
use Rattle.source.specs.declared.Kind.{Kind}
use Rattle.source.specs.declared.Kind.TheVariants.{Format4, Format12, Format14, Unreadable}
use Rattle.source.specs.Kind.{kind_at}
use Rattle.source.specs.Fields.{end_code, start_code, id_delta, id_range_offset, array_entries, end_char_code}
use Rattle.source.proofs.KindLaws.{tells4, tells12, length_of}
use Rattle.source.proofs.StandsLaws.{kind_stands}
use Rattle.heads_lookup.specs.Lookup.{reaches, in_array, in_segment, find4, in_group, find12, lookup4_in, lookup4, lookup12_in, lookup12}

module _ {xs t : List ℕ} {at : ℕ} (st : Stands xs at t) where
  -- ---- format 4

  module _ (s len : ℕ) (room : 16 + 8 * s ≤ len) (fits : len ≤ length t) where
    array_stands : (place delta : ℕ) → in_array xs at s len place delta ≡ in_array t 0 s len place delta
    unfolding in_array
    array_stands place delta =
        if_lt_same place s _ _ _ _
        (λ h. refl)
        (λ h.
        if_lt_same (place - s) (array_entries s len) _ _ _ _
        (λ k. rw (be_stands st 2 (0 + 16 + 8 * s + 2 * (place - s)) (at + 16 + 8 * s + 2 * (place - s)) (omega arith) (omega arith)))
        (λ k. refl))

    segment_stands : (i c : ℕ) → i < s → in_segment xs at s len i c ≡ in_segment t 0 s len i c
    unfolding in_segment
    segment_stands i c h =
        rw (
          be_stands st 2 (0 + 16 + 2 * s + 2 * i) (at + 16 + 2 * s + 2 * i) (omega arith) (omega arith),
          be_stands st 2 (0 + 16 + 4 * s + 2 * i) (at + 16 + 4 * s + 2 * i) (omega arith) (omega arith),
          be_stands st 2 (0 + 16 + 6 * s + 2 * i) (at + 16 + 6 * s + 2 * i) (omega arith) (omega arith),
          array_stands (id_range_offset t 0 s i / 2 + (c - start_code t 0 s i) + i) (id_delta t 0 s i),
        )

    pub find4_stands : (c : ℕ) → find4 xs at s len c ≡ find4 t 0 s len c
    unfolding find4
    find4_stands c =
        let e = first_ext (reaches (end_code xs at) c) (reaches (end_code t 0) c) s 0
        (λ i a b. ap (leb c) (be_stands st 2 (0 + 14 + 2 * i) (at + 14 + 2 * i) (omega arith) (omega arith))) in
        rw e
        (if_lt_same 0xFFFF c _ _ _ _
        (λ h. refl)
        (λ h. if_lt_same _ s _ _ _ _ (λ k. segment_stands _ c k) (λ k. refl)))

  -- ---- format 12

  module _ (n : ℕ) (room : 16 + 12 * n ≤ length t) where
    group_stands : (i c : ℕ) → i < n → in_group xs at i c ≡ in_group t 0 i c
    unfolding in_group
    group_stands i c h =
        rw (
          be_stands st 4 (0 + 16 + 12 * i) (at + 16 + 12 * i) (omega arith) (omega arith),
          be_stands st 4 (0 + 24 + 12 * i) (at + 24 + 12 * i) (omega arith) (omega arith),
        )

    pub find12_stands : (c : ℕ) → find12 xs at n c ≡ find12 t 0 n c
    unfolding find12
    find12_stands c =
        let e = first_ext (reaches (end_char_code xs at) c) (reaches (end_char_code t 0) c) n 0
        (λ i a b. ap (leb c) (be_stands st 4 (0 + 20 + 12 * i) (at + 20 + 12 * i) (omega arith) (omega arith))) in
        rw e (if_lt_same _ n _ _ _ _ (λ k. group_stands _ c k) (λ k. refl))

  -- ---- whole subtables, as long as their length fields say

  module _ (some : 0 < length t) (whole : length_of (kind_at t 0) ≡ length t) (c : ℕ) where
    pub lookup4_stands : lookup4 xs at c ≡ lookup4 t 0 c
    unfolding lookup4
    lookup4_stands = rw (kind_stands st some whole) (go (kind_at t 0) refl whole)
      where
        go : (k : Kind) → kind_at t 0 ≡ k → length_of k ≡ length t → lookup4_in k xs at c ≡ lookup4_in k t 0 c
        go (Format4 l s len) e q =
            let r = tells4 t 0 e in
            find4_stands s len r.room (omega arith) c
        go (Format12 l n len) e q = refl
        go (Format14 n len) e q = refl
        go Unreadable e q = refl

    pub lookup12_stands : lookup12 xs at c ≡ lookup12 t 0 c
    unfolding lookup12
    lookup12_stands = rw (kind_stands st some whole) (go (kind_at t 0) refl whole)
      where
        go : (k : Kind) → kind_at t 0 ≡ k → length_of k ≡ length t → lookup12_in k xs at c ≡ lookup12_in k t 0 c
        go (Format4 l s len) e q = refl
        go (Format12 l n len) e q =
            let r = tells12 t 0 e in
            find12_stands n (omega arith) c
        go (Format14 n len) e q = refl
        go Unreadable e q = refl
