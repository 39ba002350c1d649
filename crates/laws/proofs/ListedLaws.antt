-- What pairs list: told in other words, past other code points, and where two columns are the pairs.
use Prim.Native.Nat.{ℕ, zero, suc, ◌<◌}
use mathlib.Core.Path.{◌≡◌, refl}
use mathlib.Core.List.{List, [], ◌∷◌, ◌++◌}
use mathlib.Core.Bool.{Bool, true, false}
use native.Mathlib.Omega.{arith}
use lib.Dec.{eqb}
use lib.ListN.{length, get_or}
use borrow.Author.Tests.{eq-eqb, ne_eqb}
use Rattle.laws.specs.Choice.{pick}
use Rattle.laws.specs.Lists.{Pair, pairs, Rising}
use Rattle.laws.specs.Linked.{Each}
use Rattle.laws.specs.Listed.{listed_as}
use Rattle.laws.proofs.RisingLaws.{rising_lt, rising_tail}

pick_ap : {A B : Type 0} (f : A → B) (t : Bool) (x y : A) → f (pick t x y) ≡ pick t (f x) (f y)
pick_ap f true x y = refl
pick_ap f false x y = refl

pub listed_ap : {A B : Type 0} (f : A → B) (none : A) (glyph : ℕ → A) (ps : List Pair) (c : ℕ) → f (listed_as none glyph ps c) ≡ listed_as (f none) (λ (g : ℕ). f (glyph g)) ps c
unfolding listed_as
listed_ap f none glyph [] c = refl
listed_ap f none glyph (p ∷ ps) c = rw (pick_ap f (eqb p.0 c) (glyph p.1) (listed_as none glyph ps c), listed_ap f none glyph ps c)

module _ {A : Type 0} (none : A) (glyph : ℕ → A) where
  -- pairs of other code points are passed over
  pub listed_not : (ps qs : List Pair) (c : ℕ) → Each (λ (p : Pair). p.0 ≡ c → ⊥) ps → listed_as none glyph (ps ++ qs) c ≡ listed_as none glyph qs c
  unfolding listed_as
  listed_not [] qs c h = refl
  listed_not (p ∷ ps) qs c h = rw (ne_eqb p.0 c h.0) (listed_not ps qs c h.1)

  pub listed_none : (ps : List Pair) (c : ℕ) → Each (λ (p : Pair). p.0 ≡ c → ⊥) ps → listed_as none glyph ps c ≡ none
  unfolding listed_as
  listed_none [] c h = refl
  listed_none (p ∷ ps) c h = rw (ne_eqb p.0 c h.0) (listed_none ps c h.1)

  -- ---- two columns as pairs

  -- the k-th code point of rising ones has the k-th glyph
  pub listed_nth : (cs gs : List ℕ) (k : ℕ) → Rising cs → length cs ≡ length gs → k < length cs → listed_as none glyph (pairs cs gs) (get_or cs k 0) ≡ glyph (get_or gs k 0)
  unfolding listed_as
  listed_nth [] gs k r e h = absurd (omega arith)
  listed_nth (c ∷ cs) [] k r e h = absurd (omega arith)
  listed_nth (c ∷ cs) (g ∷ gs) zero r e h = rw (eq-eqb c c refl)
  listed_nth (c ∷ cs) (g ∷ gs) (suc k) r e h =
      let l : c < get_or cs k 0 = rising_lt r 0 (suc k) (omega arith) h in
      rw (ne_eqb c (get_or cs k 0) (λ z. omega arith)) (listed_nth cs gs k (rising_tail r) (omega arith) (omega arith))

  -- a number that is none of the code points
  pub listed_absent : (cs gs : List ℕ) (c : ℕ) → ((k : ℕ) → k < length cs → get_or cs k 0 ≡ c → ⊥) → listed_as none glyph (pairs cs gs) c ≡ none
  unfolding listed_as
  listed_absent [] gs c h = refl
  listed_absent (d ∷ cs) [] c h = refl
  listed_absent (d ∷ cs) (g ∷ gs) c h = rw (ne_eqb d c (h 0 (omega arith))) (listed_absent cs gs c (λ k l. h (suc k) (omega arith)))
