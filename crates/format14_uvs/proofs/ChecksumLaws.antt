-- A checksum taken record by record, and why unequal ones tell tables apart.
use Prim.Native.Nat.{ℕ, zero, suc, ◌+◌, ◌-◌, ◌*◌, ◌/◌, ◌%◌, ◌<◌, ◌≤◌}
use mathlib.Core.Path.{◌≡◌, refl, sym, ap, ◌∙◌}
use mathlib.Core.List.{List, [], ◌∷◌, ◌++◌}
use mathlib.Core.Bool.{Bool, true, false}
use native.Mathlib.Nat.{mul-le-mul_left, mul-le-mul_right}
use native.Mathlib.Omega.{arith}
use lib.ListN.{length, drop}
use lib.Seq.{drop-append-add}
use Rattle.laws.specs.Select.{each, select, flat, eq_list}
use Rattle.laws.proofs.EqListLaws.{eq_true}
use Rattle.laws.proofs.ChoiceLaws.{by_test}
use Rattle.laws.proofs.SelectLaws.{each_all, select_yes, select_no, select_end}
use Rattle.number.specs.BigEndian.{enc}
use Rattle.number.proofs.BigEndianLaws.{length-enc}
use Rattle.format14_uvs.specs.Tables.{uvs_table}
use Rattle.format14_uvs.specs.Checksum.{gathered, mixed, checksum}

-- the bytes that make a number whole, then others
gathered-append : (size k v s : ℕ) (us vs : List ℕ) → length us ≡ suc k → gathered size k v s (us ++ vs) ≡ mixed size (gathered size k v s us) vs
unfolding gathered
gathered-append size k v s [] vs h = absurd (omega arith)
gathered-append size zero v s (u ∷ []) vs h = refl
gathered-append size zero v s (u ∷ (w ∷ us)) vs h = absurd (omega arith)
gathered-append size (suc k) v s (u ∷ us) vs h = gathered-append size k (v * 256 + u) s us vs (omega arith)

-- one record, then others
pub mixed-append : (size s : ℕ) (us vs : List ℕ) → 0 < size → length us ≡ size → mixed size s (us ++ vs) ≡ mixed size (mixed size s us) vs
mixed-append size s us vs h e = gathered-append size (size - 1) 0 s us vs (omega arith)

-- a half of a checksum can be squared
pub square_below : (a : ℕ) → a < 4294967296 → a * a ≤ 18446744065119617025
square_below a h = omega (arith, mul-le-mul_left {m = a} {n = 4294967295} a (omega arith), mul-le-mul_right {m = a} {n = 4294967295} 4294967295 (omega arith))

-- the upper half of a number of 64 bits, which is folded into the lower one
pub upper_fits : (y : ℕ) → y < 18446744073709551616 → y / 4294967296 * 17 < 18446744073709551616
upper_fits y h = omega arith

pub folded_fits : (y : ℕ) → y < 18446744073709551616 → y / 4294967296 * 17 + y % 4294967296 < 18446744073709551616
folded_fits y h = omega arith

-- ---- tables

pub checksum_table : {A : Type 0} (size : ℕ) (w : A → List ℕ) (xs : List A) → checksum size (uvs_table w xs) ≡ mixed size 0 (flat w xs)
unfolding checksum uvs_table flat gathered
checksum_table size w [] = refl
checksum_table size w (x ∷ xs) =
    let n = length (x ∷ xs) in
    let four : 4 ≡ length (enc 4 n) + 0 = rw (length-enc 4 n) in
    ap (λ (l : List ℕ). mixed size 0 l) (ap (λ k. drop k (enc 4 n ++ (w x ++ flat w xs))) four ∙ drop-append-add (enc 4 n) (w x ++ flat w xs) 0)

pub sums_apart : (size : ℕ) (us vs : List ℕ) → (checksum size us ≡ checksum size vs → ⊥) → false ≡ eq_list us vs
sums_apart size us vs n =
    by_test (false ≡ eq_list us vs) (eq_list us vs)
    (λ e. absurd (n (ap (checksum size) (eq_true us vs e))))
    (λ e. sym e)

-- ---- a loop over a row of which some are selected

-- what is left, mixed in from here, gives the whole; each record is of `size` bytes
pub record Summing {A : Type 0} (size : ℕ) (w : A → List ℕ) (q : A → Bool) (f : ℕ → A) (n i sum : ℕ) : Type 0 where
  pub some : 0 < size
  pub wide : (x : A) → length (w x) ≡ size
  pub within : i ≤ n
  pub left : mixed size sum (flat w (select q (each f (n - i) i))) ≡ mixed size 0 (flat w (select q (each f n 0)))

-- b is the code's own answer for the place i
module _ {A : Type 0} (size : ℕ) (w : A → List ℕ) (q : A → Bool) (f : ℕ → A) (n : ℕ) where
  pub summing_start : 0 < size → ((x : A) → length (w x) ≡ size) → Summing size w q f n 0 0
  summing_start h e = record { some = h; wide = e; within = omega arith; left = rw (each_all f n 0) }

  module _ (i sum : ℕ) (b : Bool) (l : Summing size w q f n i sum) (h : i < n) (e : b ≡ q (f i)) where
    pub summing_yes : (next : ℕ) → b ≡ true → next ≡ mixed size sum (w (f i)) → Summing size w q f n (i + 1) next
    unfolding flat
    summing_yes next t d =
        let more = mixed-append size sum (w (f i)) (flat w (select q (each f (n - (i + 1)) (i + 1)))) l.some (l.wide (f i)) in
        record { some = l.some; wide = l.wide; within = omega arith; left = rw (d, ← more) (rw (select_yes q f n i h (sym e ∙ t)) at l.left) }

    pub summing_no : b ≡ false → Summing size w q f n (i + 1) sum
    summing_no t = record { some = l.some; wide = l.wide; within = omega arith; left = rw (select_no q f n i h (sym e ∙ t)) at l.left }

  pub summing_end : (i sum : ℕ) → Summing size w q f n i sum → n ≤ i → sum ≡ mixed size 0 (flat w (select q (each f n 0)))
  unfolding flat gathered
  summing_end i sum l h = rw (select_end q f n i h) at l.left

pub ruleset summing = (summing_yes, summing_no, summing_end)
