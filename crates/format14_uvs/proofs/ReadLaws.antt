-- The records of a table read back from its bytes, wherever they stand: proved once for records of any size.
use Prim.Native.Nat.{ℕ, zero, suc, ◌+◌, ◌*◌, ◌^◌, ◌<◌}
use mathlib.Core.Path.{◌≡◌, refl, ap, ap₂, ◌∙◌}
use mathlib.Core.List.{List, [], ◌∷◌, ◌++◌, map}
use mathlib.Core.Bool.{Bool, true, false}
use native.Mathlib.Nat.{add_assoc, mul-suc, mul-zero}
use native.Mathlib.Numerals.{add-one}
use native.Mathlib.Omega.{arith}
use lib.ListN.{length, get_or, length-append, get_or-append}
use lib.Seq.{get_or-append-add}
use Rattle.laws.specs.Linked.{Each}
use Rattle.laws.specs.Choice.{pick}
use Rattle.laws.specs.Select.{each, select, flat}
use Rattle.laws.proofs.StandsLaws.{Stands}
use Rattle.number.specs.BigEndian.{be, enc}
use Rattle.number.proofs.BigEndianLaws.{be-enc_fits, length-enc}
use Rattle.number.proofs.StandsLaws.{be_stands}
use Rattle.format14_uvs.specs.Tables.{uvs_table}

-- ---- what holds of each element of a row holds of those selected

module _ {A : Type 0} (P : A → Type 0) where
  pub each_row : (f : ℕ → A) → ((i : ℕ) → P (f i)) → (n i : ℕ) → Each P (each f n i)
  unfolding each
  each_row f h zero i = tt
  each_row f h (suc n) i = (h i, each_row f h n (i + 1))

  pub each_select : (q : A → Bool) (xs : List A) → Each P xs → Each P (select q xs)
  unfolding select
  each_select q [] h = tt
  each_select q (x ∷ xs) h = by_test (each_select q xs h.1) (q x)
    where
      by_test : Each P (select q xs) → (t : Bool) → Each P (pick t (x ∷ select q xs) (select q xs))
      by_test r true = (h.0, r)
      by_test r false = r

-- ---- what stands somewhere

pub stands_front : {ys : List ℕ} {at : ℕ} (us vs : List ℕ) → Stands ys at (us ++ vs) → Stands ys at us
stands_front us vs st = record {
  inside = omega (arith, st.inside, length-append us vs);
  same = λ k h. st.same k (omega (arith, length-append us vs)) ∙ get_or-append us vs 0 k h;
}

pub stands_back : {ys : List ℕ} {at : ℕ} (us vs : List ℕ) (place : ℕ) → place ≡ at + length us → Stands ys at (us ++ vs) → Stands ys place vs
stands_back {ys} {at} us vs place e st = record {
  inside = omega (arith, e, st.inside, length-append us vs);
  same = λ k h. rw (e, add_assoc at (length us) k) (st.same (length us + k) (omega (arith, length-append us vs)) ∙ get_or-append-add us vs k 0);
}

pub stands_whole : (t : List ℕ) → Stands t 0 t
stands_whole t = record { inside = omega arith; same = λ k h. ap (λ i. get_or t i 0) (omega arith) }

-- ---- tables

-- `read` finds in the bytes of x what `val` says of it, if P holds of x
module _ {A B : Type 0} (w : A → List ℕ) (size : ℕ) (sized : (x : A) → length (w x) ≡ size) (read : List ℕ → ℕ → B) (val : A → B) (P : A → Type 0)
    (one : (ys : List ℕ) (at : ℕ) (x : A) → P x → Stands ys at (w x) → read ys at ≡ val x) where
  row_back : (ys : List ℕ) (at : ℕ) (xs : List A) (i : ℕ) → Each P xs → Stands ys (at + size * i) (flat w xs) → each (λ k. read ys (at + size * k)) (length xs) i ≡ map val xs
  unfolding each flat
  row_back ys at [] i f st = refl
  row_back ys at (x ∷ xs) i f st =
      let next : at + size * (i + 1) ≡ at + size * i + length (w x) = rw (sized x, add-one i, mul-suc size i) (omega arith) in
      ap₂ (λ (b : B) (l : List B). b ∷ l) (one ys (at + size * i) x f.0 (stands_front (w x) (flat w xs) st))
      (row_back ys at xs (i + 1) f.1 (stands_back (w x) (flat w xs) (at + size * (i + 1)) next st))

  pub table_back : (ys : List ℕ) (q : ℕ) (xs : List A) → Each P xs → length xs < 256 ^ 4 → Stands ys q (uvs_table w xs) → 0 < length (uvs_table w xs)
      → each (λ k. read ys (q + 4 + size * k)) (be 4 ys q) 0 ≡ map val xs
  unfolding uvs_table
  table_back ys q [] f l st z = absurd (omega arith)
  table_back ys q (x ∷ xs) f l st z =
      let n = length (x ∷ xs) in
      let four : length (enc 4 n) ≡ 4 = length-enc 4 n in
      let count : be 4 ys q ≡ n = be_stands (stands_front (enc 4 n) (flat w (x ∷ xs)) st) 4 0 q (omega arith) (omega (arith, four)) ∙ be-enc_fits 4 n l in
      let place : q + 4 + size * 0 ≡ q + length (enc 4 n) = rw (four, mul-zero size) (omega arith) in
      rw count (row_back ys (q + 4) (x ∷ xs) 0 f (stands_back (enc 4 n) (flat w (x ∷ xs)) (q + 4 + size * 0) place st))
