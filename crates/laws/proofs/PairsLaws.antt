-- Two lists side by side: each can be read off the pairs, what holds of each list's elements holds of the pairs' parts, and those kept by a test.
use Prim.Native.Nat.{ℕ, suc}
use native.Mathlib.Omega.{arith}
use mathlib.Core.Path.{◌≡◌, refl, sym, ap, ◌∙◌}
use mathlib.Core.List.{List, [], ◌∷◌, map}
use mathlib.Core.Bool.{Bool, true, false}
use lib.ListN.{length, length-map}
use Rattle.laws.specs.Choice.{pick}
use Rattle.laws.specs.Lists.{Pair, pairs, keep}
use Rattle.laws.specs.Select.{select}
use Rattle.laws.specs.Linked.{Each}

pub firsts_pairs : (cs gs : List ℕ) → length cs ≡ length gs → map (λ (p : Pair). p.0) (pairs cs gs) ≡ cs
firsts_pairs [] gs e = refl
firsts_pairs (c ∷ cs) [] e = absurd (omega arith)
firsts_pairs (c ∷ cs) (g ∷ gs) e = ap (λ (l : List ℕ). c ∷ l) (firsts_pairs cs gs (omega arith))

pub seconds_pairs : (cs gs : List ℕ) → length cs ≡ length gs → map (λ (p : Pair). p.1) (pairs cs gs) ≡ gs
seconds_pairs [] [] e = refl
seconds_pairs [] (g ∷ gs) e = absurd (omega arith)
seconds_pairs (c ∷ cs) [] e = absurd (omega arith)
seconds_pairs (c ∷ cs) (g ∷ gs) e = ap (λ (l : List ℕ). g ∷ l) (seconds_pairs cs gs (omega arith))

pub each_pairs : (P Q : ℕ → Type 0) (cs gs : List ℕ) → Each P cs → Each Q gs → Each (λ (p : Pair). P p.0 × Q p.1) (pairs cs gs)
each_pairs P Q [] gs a b = tt
each_pairs P Q (c ∷ cs) [] a b = tt
each_pairs P Q (c ∷ cs) (g ∷ gs) a b = ((a.0, b.0), each_pairs P Q cs gs a.1 b.1)

pub length_even : (cs gs : List ℕ) → length cs ≡ length gs → length (pairs cs gs) ≡ length gs
length_even cs gs e = sym (length-map (pairs cs gs) (λ (p : Pair). p.1)) ∙ ap length (seconds_pairs cs gs e)

-- ---- columns that are kept

-- the pairs whose code points pass are those of the columns that are kept
pub keep-pairs : (p : ℕ → Bool) (cs gs : List ℕ) → length cs ≡ length gs → pairs (keep p cs cs) (keep p cs gs) ≡ select (λ q. p q.0) (pairs cs gs)
unfolding select
keep-pairs p [] gs e = refl
keep-pairs p (c ∷ cs) [] e = absurd (omega arith)
keep-pairs p (c ∷ cs) (g ∷ gs) e = go (p c) (keep p cs cs) (keep p cs gs) (keep-pairs p cs gs (omega arith))
  where
    go : (t : Bool) (k l : List ℕ) {r : List Pair} → pairs k l ≡ r → pairs (pick t (c ∷ k) k) (pick t (g ∷ l) l) ≡ pick t ((c, g) ∷ r) r
    go true k l h = ap (λ (q : List Pair). (c, g) ∷ q) h
    go false k l h = h

pub length-keep : (p : ℕ → Bool) (cs gs : List ℕ) → length cs ≡ length gs → length (keep p cs cs) ≡ length (keep p cs gs)
length-keep p [] gs e = refl
length-keep p (c ∷ cs) [] e = absurd (omega arith)
length-keep p (c ∷ cs) (g ∷ gs) e = go (p c) (keep p cs cs) (keep p cs gs) (length-keep p cs gs (omega arith))
  where
    go : (t : Bool) (k l : List ℕ) → length k ≡ length l → length (pick t (c ∷ k) k) ≡ length (pick t (g ∷ l) l)
    go true k l h = ap suc h
    go false k l h = h
