-- A list laid over the first places of another: place by place, and what it leaves.
use mathlib.Core.Path.{◌≡◌, refl, sym, ap, ◌∙◌}
use Prim.Native.Nat.{ℕ, zero, suc, ◌+◌, ◌≤◌, ◌<◌}
use native.Mathlib.Nat.{not-suc-le-zero, le_of_suc-le-suc}
use native.Mathlib.Omega.{arith}
use mathlib.Core.List.{List, [], ◌∷◌, ◌++◌}
use lib.ListN.{length, get_or, take, drop, set}
use lib.Seq.{take-length, take-append_seam, drop-append_seam}
use native.Mathlib.Numerals.{add-one}
use Rattle.std.proofs.Common.{map}
use Rattle.std.proofs.lemmas.List.{get_or-map}
use Rattle.laws.proofs.LengthLaws.{length-map}
use Rattle.laws.specs.Lists.{laid}

-- ys with the first i of xs in its first places
abbrev pub upto : ℕ → List ℕ → List ℕ → List ℕ
upto i xs ys = take i xs ++ drop i ys

pub length-upto : (i : ℕ) (xs ys : List ℕ) → i ≤ length xs → i ≤ length ys → length (upto i xs ys) ≡ length ys
length-upto zero xs ys h k = refl
length-upto (suc i) [] ys h k = absurd (not-suc-le-zero h)
length-upto (suc i) (x ∷ xs) [] h k = absurd (not-suc-le-zero k)
length-upto (suc i) (x ∷ xs) (y ∷ ys) h k = ap suc (length-upto i xs ys (le_of_suc-le-suc h) (le_of_suc-le-suc k))

-- the next one is put in its place
pub upto_step : (i : ℕ) (xs ys : List ℕ) → i < length xs → i < length ys → set (upto i xs ys) i (get_or xs i 0) ≡ upto (suc i) xs ys
upto_step i [] ys h k = absurd (not-suc-le-zero h)
upto_step i (x ∷ xs) [] h k = absurd (not-suc-le-zero k)
upto_step zero (x ∷ xs) (y ∷ ys) h k = refl
upto_step (suc i) (x ∷ xs) (y ∷ ys) h k = ap (λ (r : List ℕ). x ∷ r) (upto_step i xs ys (le_of_suc-le-suc h) (le_of_suc-le-suc k))

-- the next record's number is put in its place
pub column_step : {A : Type 0} (f : A → ℕ) (ps : List A) (i : ℕ) (d : A) (ys : List ℕ) {out : List ℕ} → out ≡ upto i (map f ps) ys → i < length ps → length ps ≤ length ys
    → set out i (f (get_or ps i d)) ≡ upto (i + 1) (map f ps) ys
column_step f ps i d ys {out} e h k =
    let here : i < length (map f ps) = omega (arith, length-map f ps) in
    ap (λ (l : List ℕ). set l i (f (get_or ps i d))) e
    ∙ ap (λ (v : ℕ). set (upto i (map f ps) ys) i v) (sym (get_or-map f ps i d 0 h))
    ∙ upto_step i (map f ps) ys here (omega arith)
    ∙ ap (λ (n : ℕ). upto n (map f ps) ys) (sym (add-one i))

-- all of them are there
pub upto_all : (n : ℕ) (xs ys : List ℕ) → length xs ≡ n → upto n xs ys ≡ laid xs ys
upto_all n xs ys e = ap (λ (m : ℕ). upto m xs ys) (sym e) ∙ ap (λ (r : List ℕ). r ++ drop (length xs) ys) (take-length xs)

-- all records' numbers are there
pub column_all : {A : Type 0} (f : A → ℕ) (ps : List A) (i : ℕ) (ys : List ℕ) {out : List ℕ} → out ≡ upto i (map f ps) ys → length ps ≤ i → i ≤ length ps → out ≡ laid (map f ps) ys
column_all f ps i ys e g h = e ∙ upto_all i (map f ps) ys (length-map f ps ∙ omega arith)

-- the first places hold xs, the others what they held, and there are as many
pub laid_first : (n : ℕ) (xs ys : List ℕ) → length xs ≡ n → take n (laid xs ys) ≡ xs
laid_first n xs ys e = ap (λ (m : ℕ). take m (laid xs ys)) (sym e) ∙ take-append_seam xs (drop (length xs) ys)

pub laid_rest : (n : ℕ) (xs ys : List ℕ) → length xs ≡ n → drop n (laid xs ys) ≡ drop n ys
laid_rest n xs ys e = ap (λ (m : ℕ). drop m (laid xs ys)) (sym e) ∙ drop-append_seam xs (drop (length xs) ys) ∙ ap (λ (m : ℕ). drop m ys) e

pub laid-length : (xs ys : List ℕ) → length xs ≤ length ys → length (laid xs ys) ≡ length ys
laid-length xs ys h = ap length (sym (upto_all (length xs) xs ys refl)) ∙ length-upto (length xs) xs ys at_most h
  where
    at_most : length xs ≤ length xs
    at_most = omega arith
