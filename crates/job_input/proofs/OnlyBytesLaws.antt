-- What is taken apart is the bytes of a job within the limits: so bytes are damaged exactly when they are no such job's.
use Prim.Native.Nat.{ℕ, zero, suc, ◌+◌, ◌*◌, ◌/◌, ◌%◌, ◌≤◌}
use mathlib.Core.Path.{◌≡◌, refl, sym, ap, ap₂, subst, ◌∙◌}
use mathlib.Core.List.{List, [], ◌++◌, append_assoc, append-nil}
use native.Mathlib.Nat.{mul-zero, mul-suc, div-add-mod}
use native.Mathlib.Omega.{arith}
use lib.ListN.{length, take, drop, take-append-drop, drop_of_length-le, length-drop}
use lib.Seq.{drop-drop, take-add}
use borrow.Author.Tests.{eqb-true}
use lib.Dec.{leb}
use Rattle.std.proofs.Common.{Option, Some, None, option_map}
use Rattle.std.proofs.lemmas.Option.{none-some, same_Some}
use Rattle.laws.proofs.ChoiceLaws.{both_left}
use Rattle.laws.proofs.TakeLaws.{take_counts}
use Rattle.number.specs.BigEndian.{enc, Bytes}
use Rattle.number.specs.Row.{encs}
use Rattle.number.proofs.BigEndianLaws.{be_lt, enc-be}
use Rattle.plan_listing.specs.Job.{Job}
use Rattle.job_input.specs.declared.Field.{Field}
use Rattle.job_input.specs.declared.Places.{Places}
use Rattle.job_input.specs.Column.{column}
use Rattle.job_input.specs.Job.{size, within, field_at, located, job_at, parse}
use Rattle.job_input.specs.Bytes.{framed_record, pair_bytes, job_bytes, Fit, Sized}
use Rattle.job_input.proofs.JobLaws.{field_stands, field_is, field_payload, five, placed}
use Rattle.job_input.proofs.ColumnLaws.{length-column}

-- the rest from a place, cut n bytes further
cut : (xs : List ℕ) (at n : ℕ) → drop at xs ≡ take n (drop at xs) ++ drop (at + n) xs
cut xs at n = sym (take-append-drop n (drop at xs)) ∙ ap (λ (r : List ℕ). take n (drop at xs) ++ r) (drop-drop n at xs)

-- a front in two parts
take_parts : (xs : List ℕ) (at n m : ℕ) → take (n + m) (drop at xs) ≡ take n (drop at xs) ++ take m (drop (at + n) xs)
take_parts xs at n m = take-add n m (drop at xs) ∙ ap (λ (r : List ℕ). take n (drop at xs) ++ take m r) (drop-drop n at xs)

module _ (xs : List ℕ) (b : Bytes xs) where
  encs-column : (w n at : ℕ) → at + w * n ≤ length xs → encs w (column w w xs at n) ≡ take (w * n) (drop at xs)
  unfolding encs column
  encs-column w zero at h = rw (mul-zero w)
  encs-column w (suc n) at h =
      let e : w * suc n ≡ w + w * n = rw (mul-suc w n) (omega arith) in
      rw (e, take_parts xs at w (w * n)) (ap₂ (λ (x y : List ℕ). x ++ y) (enc-be w xs at b (omega (arith, e, h))) (encs-column w n (at + w) (omega (arith, e, h))))

  pairs_column : (n at : ℕ) → at + 6 * n ≤ length xs → pair_bytes (column 4 6 xs at n) (column 2 6 xs (at + 4) n) ≡ take (6 * n) (drop at xs)
  unfolding pair_bytes column
  pairs_column zero at h = refl
  pairs_column (suc n) at h =
      let e : 6 * suc n ≡ 4 + (2 + 6 * n) = omega arith in
      let q : at + 4 + 6 ≡ at + 6 + 4 = omega arith in
      let r : at + 4 + 2 ≡ at + 6 = omega arith in
      rw (e, take_parts xs at 4 (2 + 6 * n), take_parts xs (at + 4) 2 (6 * n), q, r)
      (ap₂ (λ (x y : List ℕ). x ++ y) (enc-be 4 xs at b (omega arith))
      (ap₂ (λ (x y : List ℕ). x ++ y) (enc-be 2 xs (at + 4) b (omega arith)) (pairs_column n (at + 6) (omega arith))))

  fit_column : (w stride n at : ℕ) → Fit w (column w stride xs at n)
  unfolding column
  fit_column w stride zero at = tt
  fit_column w stride (suc n) at = (be_lt w xs at b, fit_column w stride n (at + stride))

  -- a record that stands, and the bytes behind it
  module _ (m width most at : ℕ) (f : Field) (e : field_at m width most xs at ≡ Some f) where
    size-count : size xs at ≡ width * f.count
    unfolding within
    size-count =
        let g = field_stands m width most xs at f e in
        let z = eqb-true (size xs at % width) 0 (both_left _ (leb (size xs at / width) most) g.entries) in
        let q = ap (λ r. width * r.count) (field_is m width most xs at f e) in
        sym (div-add-mod (size xs at) width) ∙ rw z (omega (arith, q))

    few : f.count ≤ most
    few = (field_payload m width most xs at f e).few

    framed_rest : (payload : List ℕ) → payload ≡ take (width * f.count) (drop f.at xs) → drop at xs ≡ framed_record m payload ++ drop f.end xs
    framed_rest payload h =
        let g = field_stands m width most xs at f e in
        let n = size xs at in
        let fa = ap (λ r. r.at) (field_is m width most xs at f e) in
        let fe = ap (λ r. r.end) (field_is m width most xs at f e) in
        let p : payload ≡ take n (drop (at + 6) xs) = h ∙ rw (size-count, fa) in
        let l : length payload ≡ n = ap (λ (r : List ℕ). length r) p ∙ sym (take_counts n (drop (at + 6) xs) (rw (length-drop (at + 6) xs) (omega (arith, g.room)))) in
        let s : at + 2 + 4 ≡ at + 6 = omega arith in
        let a : enc 2 m ≡ take 2 (drop at xs) = rw (← g.marked) (enc-be 2 xs at b (omega (arith, g.head))) in
        let c : enc 4 (length payload) ≡ take 4 (drop (at + 2) xs) = rw l (enc-be 4 xs (at + 2) b (omega (arith, g.head))) in
        cut xs at 2
        ∙ rw (cut xs (at + 2) 4, s, cut xs (at + 6) n, ← a, ← c, ← p, fe)
        (sym (append_assoc (enc 2 m) (enc 4 (length payload) ++ payload) (drop f.end xs) ∙ ap (λ (r : List ℕ). enc 2 m ++ r) (append_assoc (enc 4 (length payload)) payload (drop f.end xs))))

  -- ---- the five records

  module _ (p : Places) (e : located xs ≡ Some p) where
    abbrev j : Job
    j = job_at xs p

    is_bytes : xs ≡ job_bytes j
    is_bytes =
        let g = five xs p e in
        let h = placed xs p e in
        let n : 1 * p.source.count ≡ p.source.count = omega arith in
        let last : drop p.requested.end xs ≡ [] = drop_of_length-le xs {i = p.requested.end} (omega (arith, g.ends)) in
        framed_rest 0x5442 1 32768 0 p.source g.source j.source (rw n)
        ∙ ap (λ (r : List ℕ). framed_record 0x5442 j.source ++ r)
        (framed_rest 0x5052 6 2048 p.source.end p.pairs g.pairs (pair_bytes j.codes j.glyphs) (pairs_column p.pairs.count p.pairs.at h.pairs.inside)
        ∙ ap (λ (r : List ℕ). framed_record 0x5052 (pair_bytes j.codes j.glyphs) ++ r)
        (framed_rest 0x4B50 4 4096 p.pairs.end p.kept g.kept (encs 4 j.kept) (encs-column 4 p.kept.count p.kept.at h.kept.inside)
        ∙ ap (λ (r : List ℕ). framed_record 0x4B50 (encs 4 j.kept) ++ r)
        (framed_rest 0x4D50 2 8192 p.kept.end p.map g.map (encs 2 j.new_glyphs) (encs-column 2 p.map.count p.map.at h.map.inside)
        ∙ ap (λ (r : List ℕ). framed_record 0x4D50 (encs 2 j.new_glyphs) ++ r)
        (framed_rest 0x5251 2 2048 p.map.end p.requested g.requested (encs 2 j.requested) (encs-column 2 p.requested.count p.requested.at h.requested.inside)
        ∙ rw last (append-nil (framed_record 0x5251 (encs 2 j.requested)))))))

    is_sized : Sized j
    is_sized =
        let h = placed xs p e in
        let s = take_counts p.source.count (drop p.source.at xs) (rw (length-drop p.source.at xs) (omega (arith, h.source.inside))) in
        let c = length-column 4 6 xs p.pairs.at p.pairs.count in
        record {
          source = omega (arith, s, h.source.few);
          pairs = rw c h.pairs.few;
          kept = rw (length-column 4 4 xs p.kept.at p.kept.count) h.kept.few;
          map = rw (length-column 2 2 xs p.map.at p.map.count) h.map.few;
          requested = rw (length-column 2 2 xs p.requested.at p.requested.count) h.requested.few;
          even = length-column 2 6 xs (p.pairs.at + 4) p.pairs.count ∙ sym c;
          codes4 = fit_column 4 6 p.pairs.count p.pairs.at;
          glyphs2 = fit_column 2 6 p.pairs.count (p.pairs.at + 4);
          kept4 = fit_column 4 4 p.kept.count p.kept.at;
          map2 = fit_column 2 2 p.map.count p.map.at;
          requested2 = fit_column 2 2 p.requested.count p.requested.at;
        }

pub parsed_bytes : (xs : List ℕ) → Bytes xs → (j : Job) → parse xs ≡ Some j → (xs ≡ job_bytes j) × Sized j
parsed_bytes xs b j h = go (located xs) refl
  where
    go : (r : Option Places) → located xs ≡ r → (xs ≡ job_bytes j) × Sized j
    go (Some p) e =
        let q : job_at xs p ≡ j = same_Some (job_at xs p) j (sym (ap (option_map (job_at xs)) e) ∙ h) in
        (subst (λ (k : Job). xs ≡ job_bytes k) q (is_bytes xs b p e), subst Sized q (is_sized xs b p e))
    go None e = absurd (none-some j (sym (ap (option_map (job_at xs)) e) ∙ h))
