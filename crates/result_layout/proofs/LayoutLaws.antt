-- The walks over the outcomes of a plan: counts and lengths.
use Prim.Native.Nat.{ℕ, zero, suc, ◌+◌, ◌*◌, ◌-◌, ◌^◌, ◌<◌, ◌≤◌}
use mathlib.Core.Path.{◌≡◌, refl, sym, ◌∙◌}
use mathlib.Core.List.{List, [], ◌∷◌}
use native.Mathlib.Numerals.{add-one}
use native.Mathlib.Omega.{arith}
use lib.ListN.{length, take, drop, length-drop}
use lib.Seq.{take_all}
use Rattle.std.specs.Prelude.{cond, sum_by, count_by}
use Rattle.std.proofs.lemmas.List.Sums.{sum_by-cons}
use Rattle.std.proofs.lemmas.List.Recursion.{is_count_by}
use Rattle.plan.specs.declared.Outcome.{Outcome}
use Rattle.plan.specs.declared.Outcome.TheVariants.{LeftOut, BadMapping, Served, Made}
use Rattle.plan.specs.Outcomes.{at, is_written}
use Rattle.plan.specs.Sizes.{made_size, Small}
use Rattle.plan.proofs.SizeLaws.{size_held}
use Rattle.result.specs.Result.{count_from, written_count}
use Rattle.result.specs.Layout.{sizes_from, place_by_sizes}
use Rattle.result_layout.specs.Counts.{OutcomesTold, Counts}

-- ---- counts

count_tail : (o : Outcome) (os : List Outcome) (n k : ℕ) → count_from (o ∷ os) n (k + 1) ≡ count_from os n k
unfolding count_from
count_tail o os zero k = refl
count_tail o os (suc n) k = rw (count_tail o os n (k + 1), add-one k) refl

one_more : (o : Outcome) (os : List Outcome) → written_count (o ∷ os) ≡ cond (is_written o) (1 + written_count os) (written_count os)
unfolding count_from
one_more (LeftOut why) os = count_tail (LeftOut why) os (length os) 0
one_more BadMapping os = count_tail BadMapping os (length os) 0
one_more (Served by) os = omega (arith, count_tail (Served by) os (length os) 0)
one_more (Made n) os = omega (arith, count_tail (Made n) os (length os) 0)

pub count_is : (os : List Outcome) → count_by is_written os ≡ written_count os
unfolding count_from
count_is os = sym (is_count_by written_count is_written refl one_more os)

-- ---- lengths

size_tail : (o : Outcome) (os : List Outcome) (n k : ℕ) → sizes_from (o ∷ os) n (k + 1) ≡ sizes_from os n k
unfolding sizes_from
size_tail o os zero k = refl
size_tail o os (suc n) k = rw (size_tail o os n (k + 1), add-one k) refl

pub sizes_are : (os : List Outcome) (k : ℕ) → sum_by made_size (drop k os) ≡ sizes_from os (length os - k) k
unfolding sizes_from
sizes_are [] zero = refl
sizes_are [] (suc k) =
    let z : 0 - suc k ≡ 0 = omega arith in
    rw z refl
sizes_are (o ∷ os) zero =
    let z : suc (length os) - 0 ≡ suc (length os) = omega arith in
    let y : length os - 0 ≡ length os = omega arith in
    let r : sum_by made_size os ≡ sizes_from os (length os) 0 = rw y at (sizes_are os 0) in
    rw (z, sum_by-cons made_size o os, size_tail o os (length os) 0, r) refl
sizes_are (o ∷ os) (suc k) =
    let z : suc (length os) - suc k ≡ length os - k = omega arith in
    rw (z, sizes_are os k, ← add-one k) (sym (size_tail o os (length os - k) k))

sizes_few : (os : List Outcome) → Small os → (n k : ℕ) → sizes_from os n k ≤ n * 4294967296
unfolding sizes_from
sizes_few os s zero k = omega arith
sizes_few os s (suc n) k = omega (arith, sizes_few os s n (k + 1), size_held (at os k), (s.each k).below)

-- the records from k on, as they are lent
module _ (os : List Outcome) (k : ℕ) (told : OutcomesTold os) where
  few : sizes_from os (length os - k) k ≤ 64 * 4294967296
  few = omega (arith, sizes_few os told.small (length os - k) k, told.few)

  lent : sum_by made_size (take (length os - k) (drop k os)) ≡ sizes_from os (length os - k) k
  lent = rw (take_all (length os - k) (drop k os) (omega (arith, length-drop k os))) (sizes_are os k)

  pub sum_few : sum_by made_size (take (length os - k) (drop k os)) < 2 ^ 64
  sum_few = omega (arith, lent, few)

  pub sum_told : (n : ℕ) → n ≡ sum_by made_size (take (length os - k) (drop k os)) → (n ≡ sizes_from os (length os - k) k) × (n ≤ 64 * 4294967296)
  sum_told n e = (e ∙ lent, omega (arith, e, lent, few))

-- ---- places

module _ (os : List Outcome) (count : ℕ) (c : Counts os count) where
  pub place_is : (k later : ℕ) → later ≡ sizes_from os (length os - (k + 1)) (k + 1) → 4 + 8 * count + later ≡ place_by_sizes os k
  unfolding place_by_sizes
  place_is k later e = omega (arith, e, c.is)

pub ruleset places = place_is
