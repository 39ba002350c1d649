-- When a table counts, read off the tests of the code; how long a new table is.
use Prim.Native.Nat.{ℕ, ◌+◌, ◌-◌, ◌*◌, ◌^◌, ◌<◌, ◌≤◌}
use mathlib.Core.Path.{◌≡◌, refl, sym, ap, ◌∙◌}
use mathlib.Core.List.{List, [], ◌∷◌, ◌++◌}
use mathlib.Core.Bool.{Bool, true, false}
use native.Mathlib.Nat.{mul-le-mul_right, eq_of_mul-eq-mul_left}
use native.Mathlib.Omega.{arith}
use borrow.Author.Tests.{leb-true, lt-ltb, le-ltb, le-leb, lt-leb}
use lib.Dec.{ltb, leb}
use Rattle.laws.specs.Choice.{pick, both}
use Rattle.laws.proofs.ChoiceLaws.{both_left, both_right, pick_same, by_leb}
use lib.ListN.{length, length-append}
use lib.Seq.{sets}
use Rattle.laws.specs.Select.{flat, eq_list}
use Rattle.laws.proofs.EqListLaws.{eq_refl, eq_true, eq_append, eq_none, none_eq}
use Rattle.laws.proofs.SelectLaws.{length-flat}
use Rattle.laws.proofs.SetsCommLaws.{sets_before}
use Rattle.number.specs.BigEndian.{be, enc, put, Num}
use Rattle.number.proofs.BigEndianLaws.{length-enc}
use Rattle.format14_uvs.specs.Tables.{counts, uvs_table}

-- ---- counts

module _ (size : ℕ) (xs : List ℕ) (at len off : ℕ) where
  pub counts_zero : off ≡ 0 → false ≡ counts size xs at len off
  unfolding counts
  counts_zero e = rw (le-ltb 0 off (omega arith))

  pub counts_past : (off ≡ 0 → ⊥) → len < off + 4 → false ≡ counts size xs at len off
  unfolding counts
  counts_past z h = rw (lt-ltb 0 off (omega arith), lt-leb (off + 4) len h)

  pub counts_fits : (off ≡ 0 → ⊥) → off + 4 ≤ len → {n : ℕ} → Num 4 xs (at + off) n → leb (off + 4 + size * n) len ≡ counts size xs at len off
  unfolding counts
  counts_fits z h q = rw (lt-ltb 0 off (omega arith), le-leb (off + 4) len h, q.is)

-- what a table that counts may be asked for
module _ (size : ℕ) (xs : List ℕ) (at len off : ℕ) (inside : at + len ≤ length xs) (e : counts size xs at len off ≡ true) where
  pub counts_head : at + off + 4 ≤ length xs
  unfolding counts
  counts_head =
      let h = leb-true (off + 4) len (both_left (leb (off + 4) len) (leb (off + 4 + size * be 4 xs (at + off)) len) (both_right (ltb 0 off) (both (leb (off + 4) len) (leb (off + 4 + size * be 4 xs (at + off)) len)) e)) in
      omega arith

  pub counts_inside : at + off + 4 + size * be 4 xs (at + off) ≤ length xs
  unfolding counts
  counts_inside =
      let h = leb-true (off + 4 + size * be 4 xs (at + off)) len (both_right (leb (off + 4) len) (leb (off + 4 + size * be 4 xs (at + off)) len) (both_right (ltb 0 off) (both (leb (off + 4) len) (leb (off + 4 + size * be 4 xs (at + off)) len)) e)) in
      omega arith

pub ruleset counts_rules = (counts_zero, counts_past, counts_fits)

-- as many records as four bytes tell, of five bytes at most
pub product_below : (size n : ℕ) → size ≤ 5 → n < 256 ^ 4 → size * n < 21474836480
product_below size n s h = omega (arith, mul-le-mul_right n s)

-- ---- table

-- n is the code's count of the records
module _ {A : Type 0} (w : A → List ℕ) (xs : List A) (n : ℕ) (e : n ≡ length xs) where
  pub table_none : n ≡ 0 → uvs_table w xs ≡ []
  unfolding uvs_table
  table_none z = none xs (sym e ∙ z)
    where
      none : (xs : List A) → length xs ≡ 0 → uvs_table w xs ≡ []
      none [] h = refl
      none (x ∷ xs) h = absurd (omega arith)

  pub table_some : (n ≡ 0 → ⊥) → uvs_table w xs ≡ enc 4 n ++ flat w xs
  unfolding uvs_table
  table_some z = rw e (some xs (λ h. z (e ∙ h)))
    where
      some : (xs : List A) → (length xs ≡ 0 → ⊥) → uvs_table w xs ≡ enc 4 (length xs) ++ flat w xs
      some [] h = absurd (h refl)
      some (x ∷ xs) h = refl

  pub size_none : n ≡ 0 → 0 ≡ length (uvs_table w xs)
  size_none z = rw (table_none z)

  pub size_some : (size : ℕ) → ((x : A) → length (w x) ≡ size) → (n ≡ 0 → ⊥) → 4 + size * n ≡ length (uvs_table w xs)
  size_some size h z = rw (table_some z, length-append, length-enc, length-flat w size h xs, ← e)

-- The records are written behind a place for their count, which comes last. With no record there may be no such place.
module _ {A : Type 0} (w : A → List ℕ) (xs : List A) (out : List ℕ) (to : ℕ) where
  pub write_short : to + length (uvs_table w xs) ≤ length out → length out - to < 4 → out ≡ sets out to (uvs_table w xs)
  write_short r h = by_leb (out ≡ sets out to (uvs_table w xs)) 1 (length xs)
      (λ (l : 1 ≤ length xs). absurd (omega (arith, rw (table_some w xs (length xs) refl (λ z. omega arith), length-append, length-enc) at r)))
      (λ (l : length xs < 1). rw (table_none w xs (length xs) refl (omega arith)))

  pub write_room : to + length (uvs_table w xs) ≤ length out → 4 ≤ length out - to → to + 4 + length (flat w xs) ≤ length out
  unfolding flat
  write_room r h = room xs r
    where
      room : (xs : List A) → to + length (uvs_table w xs) ≤ length out → to + 4 + length (flat w xs) ≤ length out
      room [] r = omega arith
      room (x ∷ xs) r = omega (arith, rw (table_some w (x ∷ xs) (length (x ∷ xs)) refl (λ z. omega arith), length-append, length-enc) at r)

  module _ (n : ℕ) (e : n ≡ length xs) (mid : List ℕ) (d : mid ≡ sets out (to + 4) (flat w xs)) where
    pub write_none : n ≡ 0 → mid ≡ sets out to (uvs_table w xs)
    unfolding flat
    write_none z = d ∙ none xs (sym e ∙ z)
      where
        none : (xs : List A) → length xs ≡ 0 → sets out (to + 4) (flat w xs) ≡ sets out to (uvs_table w xs)
        none [] h = rw (table_none w [] 0 refl refl)
        none (x ∷ xs) h = absurd (omega arith)

    pub write_some : (n ≡ 0 → ⊥) → (fin : List ℕ) → fin ≡ put 4 mid to n → fin ≡ sets out to (uvs_table w xs)
    unfolding put
    write_some z fin f = rw (f, d, table_some w xs n e z) (sets_before out (enc 4 n) (flat w xs) (to + 4) to (rw (length-enc 4 n)))

pub ruleset writes = (write_short, write_room, write_none, write_some)

-- two tables are equal exactly where their records' bytes are
pub eq_table : {A : Type 0} (w : A → List ℕ) (size : ℕ) → 0 < size → ((x : A) → length (w x) ≡ size) → (xs ys : List A)
    → eq_list (flat w xs) (flat w ys) ≡ eq_list (uvs_table w xs) (uvs_table w ys)
unfolding flat uvs_table
eq_table w size s h [] [] = refl
eq_table w size s h [] (y ∷ ys) =
    eq_none (w y ++ flat w ys) (rw (length-append, h y) (omega arith))
    ∙ sym (eq_none (enc 4 (length (y ∷ ys)) ++ (w y ++ flat w ys)) (rw (length-append, length-enc) (omega arith)))
eq_table w size s h (x ∷ xs) [] =
    none_eq (w x ++ flat w xs) (rw (length-append, h x) (omega arith))
    ∙ sym (none_eq (enc 4 (length (x ∷ xs)) ++ (w x ++ flat w xs)) (rw (length-append, length-enc) (omega arith)))
eq_table w size s h (x ∷ xs) (y ∷ ys) =
    by_test (eq_list (flat w (x ∷ xs)) (flat w (y ∷ ys))) refl
    ∙ sym (eq_append (enc 4 (length (x ∷ xs))) (enc 4 (length (y ∷ ys))) (flat w (x ∷ xs)) (flat w (y ∷ ys)) (length-enc 4 (length (x ∷ xs)) ∙ sym (length-enc 4 (length (y ∷ ys)))))
  where
    by_test : (t : Bool) → eq_list (flat w (x ∷ xs)) (flat w (y ∷ ys)) ≡ t
        → eq_list (flat w (x ∷ xs)) (flat w (y ∷ ys)) ≡ pick (eq_list (enc 4 (length (x ∷ xs))) (enc 4 (length (y ∷ ys)))) (eq_list (flat w (x ∷ xs)) (flat w (y ∷ ys))) false
    by_test true e =
        let l : size * length (x ∷ xs) ≡ size * length (y ∷ ys) =
        sym (length-flat w size h (x ∷ xs)) ∙ ap (λ (l : List ℕ). length l) (eq_true (flat w (x ∷ xs)) (flat w (y ∷ ys)) e) ∙ length-flat w size h (y ∷ ys) in
        rw (e, eq_of_mul-eq-mul_left size s (length (x ∷ xs)) (length (y ∷ ys)) l, eq_refl (enc 4 (length (y ∷ ys))))
    by_test false e = rw e (sym (pick_same (eq_list (enc 4 (length (x ∷ xs))) (enc 4 (length (y ∷ ys)))) false))
