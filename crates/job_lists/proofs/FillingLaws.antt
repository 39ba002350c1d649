-- The loop that fills the first places of a list: the rest, stored from here, gives the whole; and a column as what is stored.
use Prim.Native.Nat.{ℕ, zero, suc, ◌+◌, ◌-◌, ◌*◌, ◌<◌, ◌≤◌}
use mathlib.Core.Path.{◌≡◌, refl, sym, ap, ◌∙◌}
use mathlib.Core.List.{List, ◌∷◌, ◌++◌, append-nil}
use native.Mathlib.Nat.{add_assoc, add-zero, mul-zero, mul-suc, sub-zero}
use native.Mathlib.Numerals.{add-one}
use native.Mathlib.Omega.{arith}
use lib.ListN.{length, take, drop, set, drop_of_length-le}
use lib.Seq.{sets, sets-eq}
use Rattle.laws.specs.Select.{each}
use Rattle.laws.proofs.LengthLaws.{length-each}
use Rattle.laws.proofs.TakeLaws.{take_counts}
use Rattle.number.specs.BigEndian.{be}
use Rattle.job_input.specs.Column.{column}

-- a store at the front leaves the rest
sets_first : {A : Type 0} (l vs : List A) (n : ℕ) → length vs ≡ n → n ≤ length l → sets l 0 vs ≡ vs ++ drop n l
sets_first l vs n e h = let z : 0 + length vs ≡ n = omega arith in sets-eq vs l 0 (rw z h) ∙ rw z

module _ {A : Type 0} (f : ℕ → A) (n : ℕ) (out₀ : List A) where
  -- what is left to store, stored from place i
  abbrev pub Filling : List A → ℕ → Type 0
  Filling out i = sets out i (each f (n - i) i) ≡ sets out₀ 0 (each f n 0)

  pub filling_start : Filling out₀ 0
  filling_start = rw (sub-zero n)

  module _ (out : List A) (i : ℕ) (l : Filling out i) where
    pub filling_on : (v : A) → i < n → v ≡ f i → Filling (set out i v) (i + 1)
    unfolding each
    filling_on v h e = let m : n - i ≡ suc (n - (i + 1)) = omega arith in rw (add-one i, e) (rw (m, add-one i) at l)

    filling_done : n ≤ i → out ≡ sets out₀ 0 (each f n 0)
    unfolding each
    filling_done h = let m : n - i ≡ 0 = omega arith in rw m at l

-- the first n places of a list filled
pub filled_front : {A : Type 0} (f : ℕ → A) (n : ℕ) (all out : List A) (i : ℕ) → n ≤ length all → n ≤ i → Filling f n (take n all) out i → out ++ drop n all ≡ sets all 0 (each f n 0)
filled_front {A = A} f n all out i h k l =
    let vs = each f n 0 in
    let e : length vs ≡ n = length-each f n 0 in
    let t : n ≡ length (take n all) = take_counts n all h in
    let whole : out ≡ vs = filling_done f n (take n all) out i l k ∙ sets_first (take n all) vs n e (omega (arith, t)) ∙ rw (drop_of_length-le (take n all) {i = n} (omega (arith, t)), append-nil vs) in
    ap (λ (r : List A). r ++ drop n all) whole ∙ sym (sets_first all vs n e h)

-- ---- columns

module _ (w stride : ℕ) (xs : List ℕ) (at : ℕ) where
  -- number k of a column
  abbrev pub number_of : ℕ → ℕ
  number_of k = be w xs (at + stride * k)

  -- a column is read off the bytes place by place
  column-each : (n i : ℕ) → column w stride xs (at + stride * i) n ≡ each number_of n i
  unfolding column each
  column-each zero i = refl
  column-each (suc n) i =
      let next : at + stride * i + stride ≡ at + stride * (i + 1) = rw (add-one i, mul-suc stride i, ← add_assoc) in
      ap (λ (ys : List ℕ). be w xs (at + stride * i) ∷ ys) (rw next (column-each n (i + 1)))

  pub filled_column : (n : ℕ) (out₀ out : List ℕ) → out ≡ sets out₀ 0 (each number_of n 0) → out ≡ sets out₀ 0 (column w stride xs at n)
  filled_column n out₀ out e = e ∙ ap (sets out₀ 0) (sym (rw (mul-zero stride, add-zero at) at (column-each n 0)))
