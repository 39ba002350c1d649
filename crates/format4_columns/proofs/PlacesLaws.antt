-- Segment by segment is column by column; header and columns are the subtable.
use Prim.Native.Nat.{ℕ, suc, ◌+◌, ◌-◌, ◌*◌, ◌^◌, ◌≤◌, ◌<◌}
use mathlib.Core.Path.{◌≡◌, refl, sym, ◌∙◌, ap, ap₂, subst}
use mathlib.Core.List.{List, [], ◌∷◌, ◌++◌, map}
use native.Mathlib.Omega.{arith}
use lib.Dec.{eqb}
use lib.ListN.{length, length-drop, get_or, take, drop, length-map}
use lib.Seq.{sets, drop-cons, drop-drop, length-take-le}
use Rattle.laws.specs.Choice.{pick}
use Rattle.laws.proofs.RunsLaws.{Column, fronts-rests}
use Rattle.laws.proofs.SetsCommLaws.{sets_comm}
use Rattle.number.specs.BigEndian.{put, enc}
use Rattle.number.specs.Row.{encs}
use Rattle.number.proofs.BigEndianLaws.{length-put}
use Rattle.number.proofs.RowLaws.{put_one_lem, length-encs, encs-append, encs_then, put-encs}
use Rattle.format4_cutting.specs.declared.Segment.{Segment}
use Rattle.format4_cutting.specs.Cutting.{entries_of, points}
use Rattle.format4_cutting.specs.Steps.{array_from}
use Rattle.format4.specs.Format4.{floor_log2, offsets_from, header4, end_of, start_of, delta_of, numbers}
use Rattle.format4.specs.Walk.{Fed}
use Rattle.format4.proofs.Format4Laws.{length_offsets, array_step}
use Rattle.format4_columns.specs.declared.RangeWriter.{RangeWriter}
use Rattle.format4_columns.specs.Places.{offset_at, part_of, next_of, put_one, put_all, columns_at, Apart, places_at, headed}

-- ---- a turn of put_glyphs

pub record Copying (gs o : List ℕ) (at k n i : ℕ) (out : List ℕ) : Type 0 where
  pub within : i ≤ n
  pub long : length out ≡ length o
  pub left : sets out (at + 2 * i) (encs 2 (take (n - i) (drop (k + i) gs))) ≡ sets o at (encs 2 (take n (drop k gs)))

pub copying_start : (gs o : List ℕ) (at k n : ℕ) → Copying gs o at k n 0 o
copying_start gs o at k n = record {
  within = omega arith;
  long = refl;
  left =
      let a : at + 2 * 0 ≡ at = omega arith in
      let b : k + 0 ≡ k = omega arith in
      let d : n - 0 ≡ n = omega arith in
      rw (a, b, d);
}

pub copying_on : (gs o : List ℕ) (at k n i : ℕ) (out next : List ℕ) → Copying gs o at k n i out → i < n → n ≤ length gs - k
    → next ≡ put 2 out (at + 2 * i) (get_or gs (k + i) 0) → Copying gs o at k n (i + 1) next
copying_on gs o at k n i out next l h q e =
    let m : n - i ≡ suc (n - (i + 1)) = omega arith in
    let a : at + 2 * (i + 1) ≡ at + 2 * i + 2 = omega arith in
    let b : k + (i + 1) ≡ suc (k + i) = omega arith in
    record {
      within = omega arith;
      long = ap length e ∙ length-put 2 out (at + 2 * i) (get_or gs (k + i) 0) ∙ l.long;
      left = rw (e, a, b)
          (put-encs 2 out (at + 2 * i) (get_or gs (k + i) 0) (take (n - (i + 1)) (drop (suc (k + i)) gs))
          ∙ rw (m, drop-cons gs (k + i) 0 (omega arith)) at l.left);
    }

pub copying_end : (gs o : List ℕ) (at k n i : ℕ) (out : List ℕ) → Copying gs o at k n i out → n ≤ i → out ≡ sets o at (encs 2 (take n (drop k gs)))
unfolding encs
copying_end gs o at k n i out l h =
    let m : n - i ≡ 0 = omega arith in
    rw m at l.left

-- ---- columns

length-column : (f : Segment → ℕ) (xs : List Segment) → length (encs 2 (map f xs)) ≡ 2 * length xs
length-column f xs = length-encs 2 (map f xs) ∙ ap (λ (n : ℕ). 2 * n) (length-map xs f)

apart_next : {w : RangeWriter} {n before : ℕ} (x : Segment) → Apart w (suc n) before → Apart (next_of w x) n (before + entries_of x)
apart_next x r = omega arith

-- the range offset that is stored is the definition's
offset_is : (w : RangeWriter) (x : Segment) (n before : ℕ) → Apart w (suc n) before → offset_at w x ≡ pick (eqb x.delta 0) (2 * suc n + 2 * before) 0
offset_is w x n before r = ap (λ (k : ℕ). pick (eqb x.delta 0) k 0) (omega (arith, r.fourth))

-- the array from the k-th glyph on is a segment's part of it, and the rest
part_step : (gs : List ℕ) (k : ℕ) (x : Segment) (xs : List Segment) → take (entries_of x) (drop k gs) ++ array_from (drop (k + points x) gs) xs ≡ array_from (drop k gs) (x ∷ xs)
part_step gs k x xs = ap (λ (l : List ℕ). take (entries_of x) (drop k gs) ++ array_from l xs) (sym (drop-drop (points x) k gs)) ∙ array_step (drop k gs) x xs

-- how long a segment's part of the array is, where there are glyphs enough
length_part : (gs : List ℕ) (k n : ℕ) → n ≤ length gs - k → length (encs 2 (take n (drop k gs))) ≡ 2 * n
length_part gs k n h = length-encs 2 (take n (drop k gs)) ∙ ap (λ (m : ℕ). 2 * m) (length-take-le n (drop k gs) (rw (length-drop k gs) h))

pub put_columns : (gs : List ℕ) (ss : List Segment) (o : List ℕ) (w : RangeWriter) (before : ℕ) → Apart w (length ss) before → Fed (length gs - w.next) ss
    → put_all gs o w ss ≡ columns_at gs o w before ss
unfolding put_all put enc encs offsets_from array_from
put_columns gs [] o w before r f = refl
put_columns gs (x ∷ xs) o w before r f =
    let k = before + entries_of x in
    let E : Column = record { place = w.ends; front = enc 2 x.end; rest = encs 2 (map end_of xs) } in
    let S : Column = record { place = w.starts; front = enc 2 x.start; rest = encs 2 (map start_of xs) } in
    let D : Column = record { place = w.deltas; front = enc 2 x.delta; rest = encs 2 (map delta_of xs) } in
    let F : Column = record { place = w.offsets; front = enc 2 (offset_at w x); rest = encs 2 (offsets_from k xs) } in
    let A : Column = record { place = w.array; front = encs 2 (part_of gs w x); rest = encs 2 (array_from (drop (w.next + points x) gs) xs) } in
    let lE = length-column end_of xs in
    let lS = length-column start_of xs in
    let lD = length-column delta_of xs in
    let lF : length (encs 2 (offsets_from k xs)) ≡ 2 * length xs = length-encs 2 (offsets_from k xs) ∙ ap (λ (n : ℕ). 2 * n) (length_offsets k xs) in
    let four = sets (sets (sets (sets (put_one gs o w x) (w.ends + 2) E.rest) (w.starts + 2) S.rest) (w.deltas + 2) D.rest) (w.offsets + 2) F.rest in
    let lA = length_part gs w.next (entries_of x) f.0 in
    let left : length gs - w.next - points x ≡ length gs - (w.next + points x) = omega arith in
    put_columns gs xs (put_one gs o w x) (next_of w x) k (apart_next x r) (subst (λ (n : ℕ). Fed n xs) left f.2)
    ∙ ap (λ (n : ℕ). sets four (w.array + n) A.rest) (sym lA)
    ∙ fronts-rests (E ∷ S ∷ D ∷ F ∷ A ∷ []) o (
      (omega (arith, r.first), (omega (arith, r.first, r.second), (omega (arith, r.first, r.second, r.third), (omega (arith, r.first, r.second, r.third, r.fourth), tt)))),
      (
        (omega (arith, r.second), (omega (arith, r.second, r.third), (omega (arith, r.second, r.third, r.fourth), tt))),
        (
          (omega (arith, r.third), (omega (arith, r.third, r.fourth), tt)),
          ((omega (arith, r.fourth), tt), (tt, tt)),
        ),
      ),
    )
    ∙ ap₂
    (λ (v : ℕ) (a : List ℕ). sets (sets (sets (sets (sets o w.ends (encs 2 (map end_of (x ∷ xs)))) w.starts (encs 2 (map start_of (x ∷ xs)))) w.deltas (encs 2 (map delta_of (x ∷ xs)))) w.offsets (enc 2 v ++ F.rest)) w.array a)
    (offset_is w x (length xs) before r)
    (sym (encs-append 2 (part_of gs w x) (array_from (drop (w.next + points x) gs) xs)) ∙ ap (encs 2) (part_step gs w.next x xs))

-- ---- the subtable

pub apart_at : (at s : ℕ) → Apart (places_at at s) s 0
apart_at at s = omega arith

-- the header, the zero after the ends, and the columns
pub whole_subtable : (language : ℕ) (gs : List ℕ) (ss : List Segment) (o : List ℕ) (at : ℕ)
    → columns_at gs (headed o at language (length ss) (length (array_from gs ss))) (places_at at (length ss)) 0 ss
    ≡ sets o at (encs 2 (numbers language ss (array_from gs ss)))
whole_subtable language gs ss o at =
    let s = length ss in
    let H = header4 language s (length (array_from gs ss)) in
    let E = map end_of ss in
    let Z : List ℕ = 0 ∷ [] in
    let S = map start_of ss in
    let D = map delta_of ss in
    let F = offsets_from 0 ss in
    let A = array_from gs ss in
    let lH : length H ≡ 7 = unfold header4 in refl in
    let lE = length-map ss end_of in
    let lS = length-map ss start_of in
    let lD = length-map ss delta_of in
    let lF = length_offsets 0 ss in
    let rE = length-column end_of ss in
    ap (λ (k : List ℕ). sets (sets (sets (sets k (at + 16 + 2 * s) (encs 2 S)) (at + 16 + 4 * s) (encs 2 D)) (at + 16 + 6 * s) (encs 2 F)) (at + 16 + 8 * s) (encs 2 A))
    (sets_comm (encs 2 E) (sets o at (encs 2 H)) (at + 14 + 2 * s) (at + 14) (encs 2 Z) (omega arith))
    ∙ encs_then 2 F A _ (at + 16 + 6 * s) (at + 16 + 8 * s) (omega arith)
    ∙ encs_then 2 D (F ++ A) _ (at + 16 + 4 * s) (at + 16 + 6 * s) (omega arith)
    ∙ encs_then 2 S (D ++ (F ++ A)) _ (at + 16 + 2 * s) (at + 16 + 4 * s) (omega arith)
    ∙ encs_then 2 Z (S ++ (D ++ (F ++ A))) _ (at + 14 + 2 * s) (at + 16 + 2 * s) (omega arith)
    ∙ encs_then 2 E (Z ++ (S ++ (D ++ (F ++ A)))) _ (at + 14) (at + 14 + 2 * s) (omega arith)
    ∙ encs_then 2 H (E ++ (Z ++ (S ++ (D ++ (F ++ A))))) _ at (at + 14) (omega arith)

-- the header as it is stored: seven numbers, and the zero
pub header_is : (o o₁ o₂ : List ℕ) (at language s g e : ℕ) → e ≡ floor_log2 s
    → o₁ ≡ sets o at (encs 2 (4 ∷ (16 + 8 * s + 2 * g) ∷ language ∷ (2 * s) ∷ (2 * 2 ^ e) ∷ e ∷ (2 * s - 2 * 2 ^ e) ∷ []))
    → o₂ ≡ put 2 o₁ (at + 14 + 2 * s) 0 → o₂ ≡ headed o at language s g
unfolding header4
header_is o o₁ o₂ at language s g e l e₁ e₂ =
    e₂ ∙ put_one_lem 2 o₁ (at + 14 + 2 * s) 0 ∙ ap (λ (k : List ℕ). sets k (at + 14 + 2 * s) (encs 2 (0 ∷ []))) (rw l at e₁)
