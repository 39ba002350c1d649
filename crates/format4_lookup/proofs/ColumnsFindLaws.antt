-- A lookup in bytes that hold the columns of segments, their range offsets and their glyph array finds what the segments give.
use Rattle.std.specs.Prelude.{Option, Some, None}
use Prim.Native.Nat.{ℕ, suc, ◌+◌, ◌-◌, ◌*◌, ◌/◌, ◌%◌, ◌≤◌, ◌<◌}
use mathlib.Core.Path.{◌≡◌, refl, ap, ◌∙◌}
use mathlib.Core.List.{List, [], ◌∷◌}
use mathlib.Core.Bool.{Bool, true, false}
use native.Mathlib.Omega.{arith}
use borrow.Author.Tests.{le-leb, lt-leb, eqb-true}
use lib.Dec.{eqb, leb}
use lib.ListN.{length, get_or, drop}
use lib.Seq.{get_or-drop, drop-drop}
use Rattle.laws.specs.Choice.{pick, if_lt, if_eq}
use Rattle.laws.specs.Search.{first}
use Rattle.laws.specs.Linked.{Each}
use Rattle.laws.proofs.ChoiceLaws.{by_pick, by_leb, if_lt_lem, else_lt, if_eq_lem, else_eq}
use Rattle.laws.proofs.EachLaws.{each_at}
use Rattle.format4_cutting.specs.declared.Segment.{Segment}
use Rattle.format4_cutting.specs.Steps.{entries}
use Rattle.format4_cutting.specs.Cutting.{entries_of}
use Rattle.source.specs.Fields.{end_code, start_code, id_delta, id_range_offset, glyph_id_array, array_entries}
use Rattle.heads_lookup.specs.Lookup.{reaches, in_array, in_segment}
use Rattle.format4.specs.Format4.{offsets_from}
use Rattle.format4_lookup.specs.CutLookup.{value_in, lookup_in}
use Rattle.format4_lookup.proofs.FitsLaws.{Low}
use Rattle.format4_lookup.proofs.ColumnsAtLaws.{Held}

entry_is : (v : ℕ) → v < 65536 → Some v ≡ if_eq v 0 (Some 0) (Some ((v + 0) % 65536))
unfolding if_eq
entry_is v h = by_pick (λ (f : Option ℕ). Some v ≡ f) (eqb v 0) (Some 0) (Some ((v + 0) % 65536)) (λ e. ap Some (eqb-true v 0 e)) (λ _. ap Some (omega arith))

module _ (xs : List ℕ) (s len : ℕ) (array : List ℕ) (low : Each Low array) (count : array_entries s len ≡ length array)
    (there : (k : ℕ) → glyph_id_array xs 0 s k ≡ get_or array k 0) (c : ℕ) where
  in_array_lem : (k : ℕ) → k < length array → Some (get_or array k 0) ≡ in_array xs 0 s len (s + k) 0
  unfolding in_array
  in_array_lem k h =
      let e : s + k - s ≡ k = omega arith in
      rw (e, count, there k)
      (else_lt (s + k) s _ _ (omega arith) (if_lt_lem k (length array) _ _ h (entry_is (get_or array k 0) (each_at Low 0 array (omega arith) low k))))

  in_segment_lem : (x : Segment) (i before left : ℕ) → i + left ≡ s → 0 < left → before + entries_of x ≤ length array → c ≤ x.end
      → start_code xs 0 s i ≡ x.start → id_delta xs 0 s i ≡ x.delta → id_range_offset xs 0 s i ≡ pick (eqb x.delta 0) (2 * left + 2 * before) 0
      → pick (leb x.start c) (Some (value_in (drop before array) x c)) None ≡ in_segment xs 0 s len i c
  unfolding in_segment
  in_segment_lem x i before left n m room h a b o =
      rw (a, b, o)
      (by_leb _ x.start c
      (λ k. rw (le-leb x.start c k) (else_lt c x.start _ _ k (go k (eqb x.delta 0) refl room)))
      (λ k. rw (lt-leb x.start c k) (if_lt_lem c x.start _ _ k refl)))
    where
      far : ℕ
      far = c - x.start

      go : x.start ≤ c → (t : Bool) → eqb x.delta 0 ≡ t → before + pick t (x.end + 1 - x.start) 0 ≤ length array
          → Some (pick t (get_or (drop before array) far 0) ((c + x.delta) % 65536))
          ≡ if_eq (pick t (2 * left + 2 * before) 0) 0 (Some ((c + x.delta) % 65536)) (in_array xs 0 s len (pick t (2 * left + 2 * before) 0 / 2 + far + i) x.delta)
      go k true e r =
          let place : (2 * left + 2 * before) / 2 + far + i ≡ s + (before + far) = omega arith in
          else_eq (2 * left + 2 * before) 0 _ _ (λ z. omega arith)
          (rw (place, eqb-true x.delta 0 e, get_or-drop before array far 0) (in_array_lem (before + far) (omega arith)))
      go k false e r = if_eq_lem 0 0 _ _ refl refl

  -- the segments from number i on
  pub columns_find : (ss : List Segment) (i before : ℕ) → i + length ss ≡ s → before + entries ss ≤ length array → Held xs s i before ss
      → lookup_in None Some (drop before array) ss c
      ≡ if_lt (first (reaches (end_code xs 0) c) (length ss) i) s (in_segment xs 0 s len (first (reaches (end_code xs 0) c) (length ss) i) c) None
  unfolding lookup_in first offsets_from
  columns_find [] i before n room h = else_lt i s _ _ (omega arith) refl
  columns_find (x ∷ ss) i before n room h =
      let next : i + 1 ≡ suc i = omega arith in
      let rest = columns_find ss (suc i) (before + entries_of x) (omega arith) (omega arith) (record { ends = h.ends.1; starts = h.starts.1; deltas = h.deltas.1; offsets = h.offsets.1 }) in
      rw (h.ends.0, next)
      (by_leb _ c x.end
      (λ k. rw (le-leb c x.end k) (if_lt_lem i s _ _ (omega arith) (in_segment_lem x i before (suc (length ss)) n (omega arith) (omega arith) k h.starts.0 h.deltas.0 h.offsets.0)))
      (λ k. rw (lt-leb c x.end k) (ap (λ (l : List ℕ). lookup_in None Some l ss c) (drop-drop (entries_of x) before array) ∙ rest)))
