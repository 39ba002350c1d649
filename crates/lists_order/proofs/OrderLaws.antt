-- What a list that breaks nothing is, and that the last number of a rising list tells of all.
use Prim.Native.Nat.{ℕ, ◌+◌, ◌-◌, ◌<◌, ◌≤◌}
use mathlib.Core.Path.{◌≡◌, sym, ◌∙◌}
use mathlib.Core.List.{List}
use mathlib.Core.Bool.{Bool, true, false}
use native.Mathlib.Numerals.{add-one}
use native.Mathlib.Omega.{arith}
use lib.Dec.{leb, ltb}
use lib.ListN.{length, get_or}
use borrow.Author.Tests.{lt-ltb, le-leb, ltb-true, ltb-false, leb-true, leb-false}
use Rattle.laws.specs.Search.{some}
use Rattle.laws.specs.Lists.{Rising}
use Rattle.laws.specs.Select.{any_of}
use Rattle.laws.proofs.SomeLaws.{some-false, some_none}
use Rattle.laws.proofs.ChoiceLaws.{false-true, not-true, by_test}
use Rattle.laws.proofs.RisingLaws.{rising_le}
use Rattle.laws.proofs.AnyLaws.{any_of-some}
use Rattle.lists_order.specs.Order.{falls, exceeds, not_below_next, reaches_count}

-- ---- a list that breaks nothing

pub rising : (xs : List ℕ) → falls xs ≡ false → Rising xs
unfolding falls
rising xs e = record {
  climbs = λ i h.
      rw (add-one i) at (leb-false (get_or xs (i + 1) 0) (get_or xs i 0) (some-false (not_below_next xs) (length xs - 1) 0 e i (omega arith) (omega arith)));
}

-- the same with the code's own answer t
pub rising_told : (xs : List ℕ) (t : Bool) → t ≡ falls xs → t ≡ false → Rising xs
rising_told xs t q e = rising xs (sym q ∙ e)

abbrev pub is_above : ℕ → List ℕ → ℕ → Bool
is_above m xs i = ltb m (get_or xs i 0)

pub at_most : (m : ℕ) (xs : List ℕ) → exceeds m xs ≡ false → (i : ℕ) → i < length xs → get_or xs i 0 ≤ m
unfolding exceeds
at_most m xs e i h = ltb-false m (get_or xs i 0) (some-false (is_above m xs) (length xs) 0 (sym (any_of-some (ltb m) 0 xs) ∙ e) i (omega arith) (omega arith))

-- ---- of a rising list the last alone is asked

module _ (p : ℕ → Bool) (xs : List ℕ) (up : (a b : ℕ) → a ≤ b → p a ≡ true → p b ≡ true) where
  abbrev last : ℕ
  last = get_or xs (length xs - 1) 0

  none_passes : Rising xs → p last ≡ false → some (λ i. p (get_or xs i 0)) (length xs) 0 ≡ false
  none_passes r e =
      some_none (λ i. p (get_or xs i 0)) (length xs)
      (λ i h. not-true (p (get_or xs i 0)) (λ d. false-true (sym e ∙ up (get_or xs i 0) last (rising_le r i (length xs - 1) (omega arith) (omega arith)) d)))

  last_tells : Rising xs → 0 < length xs → p last ≡ any_of p xs
  last_tells r h =
      rw (any_of-some p 0 xs)
      (by_test (p last ≡ some (λ i. p (get_or xs i 0)) (length xs) 0) (p last)
      (λ e. by_test (p last ≡ some (λ i. p (get_or xs i 0)) (length xs) 0) (some (λ i. p (get_or xs i 0)) (length xs) 0)
      (λ d. e ∙ sym d)
      (λ d. absurd (false-true (sym (some-false (λ i. p (get_or xs i 0)) (length xs) 0 d (length xs - 1) (omega arith) (omega arith)) ∙ e))))
      (λ e. e ∙ sym (none_passes r e)))

none_told : (p : ℕ → Bool) (xs : List ℕ) → length xs ≤ 0 → false ≡ any_of p xs
none_told p xs h = rw (any_of-some p 0 xs) (sym (some_none (λ i. p (get_or xs i 0)) (length xs) (λ i l. absurd (omega arith))))

module _ (m : ℕ) (xs : List ℕ) where
  pub last_exceeds : (r : Bool) → Rising xs → 0 < length xs → r ≡ ltb m (get_or xs (length xs - 1) 0) → r ≡ exceeds m xs
  unfolding exceeds
  last_exceeds r k h e = e ∙ last_tells (ltb m) xs (λ a b l d. lt-ltb m b (omega (arith, ltb-true m a d))) k h

  pub none_exceeds : length xs ≤ 0 → false ≡ exceeds m xs
  unfolding exceeds
  none_exceeds h = none_told (ltb m) xs h

  pub last_reaches : (r : Bool) → Rising xs → 0 < length xs → r ≡ leb m (get_or xs (length xs - 1) 0) → r ≡ reaches_count m xs
  unfolding reaches_count
  last_reaches r k h e = e ∙ last_tells (leb m) xs (λ a b l d. le-leb m b (omega (arith, leb-true m a d))) k h

  pub none_reaches : length xs ≤ 0 → false ≡ reaches_count m xs
  unfolding reaches_count
  none_reaches h = none_told (leb m) xs h

pub ruleset by_Last = (last_exceeds, none_exceeds, last_reaches, none_reaches)
