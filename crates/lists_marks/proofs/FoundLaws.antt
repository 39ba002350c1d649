-- What a binary search by the numbers of a rising list tells: whether it holds a number.
use Rattle.std.proofs.Common.{◌≡◌, ℕ, zero, suc, ◌<◌, ◌≤◌, Bool, List, [], ◌∷◌, length, get_or, slice_index_or, Result, Ok, Err, refl, sym, ◌∙◌, true, false, arith}
use Rattle.std.specs.List.Sorted.{IsSearchInRange, IsBinarySearchResult, IsNonDecreasingBy}
use Rattle.std.specs.Ordering.{nat_cmp, ordering_index}
use Rattle.std.specs.Result.{is_ok}
use Rattle.std.proofs.lemmas.Cmp.{ranked}
use Rattle.std.proofs.lemmas.List.Sorted.{IsNonDecreasingBy-from_default}
use Rattle.std.proofs.lemmas.Bool.Decides.{nat_tests}
use borrow.Author.Tests.{eq-eqb, ne_eqb}
use native.Mathlib.Nat.{not-suc-le-zero}
use lib.Dec.{eqb}
use Rattle.laws.specs.Choice.{either}
use Rattle.laws.specs.Lists.{Rising}
use Rattle.laws.proofs.ChoiceLaws.{by_leb}
use Rattle.laws.proofs.RisingLaws.{rising_le}
use Rattle.lists_marks.specs.Marks.{holds}

holds_here : (ps : List ℕ) (c i : ℕ) → i < length ps → get_or ps i 0 ≡ c → true ≡ holds ps c
unfolding holds
holds_here [] c i h e = absurd (not-suc-le-zero h)
holds_here (x ∷ xs) c zero h e = rw (eq-eqb x c e)
holds_here (x ∷ xs) c (suc i) h e = rw (← holds_here xs c i (omega arith) e) (either_yes (eqb x c))
  where
    either_yes : (b : Bool) → true ≡ either b true
    either_yes true = refl
    either_yes false = refl

holds_never : (ps : List ℕ) (c : ℕ) → ((i : ℕ) → i < length ps → get_or ps i 0 ≡ c → ⊥) → false ≡ holds ps c
unfolding holds
holds_never [] c miss = refl
holds_never (x ∷ xs) c miss = rw (ne_eqb x c (miss 0 (omega arith))) (holds_never xs c (λ i l. miss (suc i) (omega arith)))

-- ps are the numbers of xs, and d is any one
module _ {T : Type 0} (value : T → ℕ) (xs : List T) (ps : List ℕ) (c : ℕ) (d : T) (same : length ps ≡ length xs) (reads : (i : ℕ) (d : T) → i < length xs → get_or ps i 0 ≡ value (slice_index_or xs i d)) (r : Rising ps) where
  comparisons_rise : IsNonDecreasingBy (λ y. ordering_index (nat_cmp (value y) c)) xs
  comparisons_rise = IsNonDecreasingBy-from_default (λ y. ordering_index (nat_cmp (value y) c)) xs d (λ i j le h.
      let up = rising_le r i j le (omega arith) in
      let a = reads i d (omega arith) in
      let b = reads j d h in
      let l : value (slice_index_or xs i d) ≤ value (slice_index_or xs j d) = omega arith in
      grind (arith, nat_tests))

  pub found_told : (o : Result ℕ ℕ) → IsSearchInRange o (length xs) → IsBinarySearchResult (λ y. nat_cmp (value y) c) xs o → is_ok o ≡ holds ps c
  found_told (Ok i) h equal = holds_here ps c i (omega arith) (reads i d h ∙ ranked _ c _ (sym (equal d)))
  found_told (Err i) h parted =
      let at = parted comparisons_rise in
      holds_never ps c (λ k l e.
      let here = reads k d (omega arith) in
      by_leb ⊥ i k
      (λ u.
      let m : c < value (slice_index_or xs k d) = ranked _ c _ (sym (at.1 k d u (omega arith))) in
      omega arith)
      (λ u.
      let m : value (slice_index_or xs k d) < c = ranked _ c _ (sym (at.0 k d (omega arith) u)) in
      omega arith))
