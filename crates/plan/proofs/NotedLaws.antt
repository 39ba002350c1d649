-- The outcomes that are noted.
use Prim.Native.Nat.{ℕ, ◌+◌, ◌<◌, ◌≤◌}
use mathlib.Core.Path.{◌≡◌, sym, ap, ◌∙◌}
use mathlib.Core.List.{List, [], ◌∷◌, ◌++◌}
use native.Mathlib.Numerals.{add-one}
use native.Mathlib.Omega.{arith}
use lib.ListN.{length, get_or, set, length-set, take}
use lib.Seq.{length-take-le, take-suc, take-set-le, get_or-take, get_or-set_same}
use Rattle.plan.specs.declared.Why.TheVariants.{NotRetained}
use Rattle.plan.specs.declared.Notes.{Notes}
use Rattle.plan.specs.declared.Outcome.{Outcome}
use Rattle.plan.specs.declared.Outcome.TheVariants.{LeftOut}
use Rattle.plan.specs.Outcomes.{at}
use Rattle.plan.specs.Notes.{outcomes_in, noted}

pub told_in_place : (os : List Outcome) (k : ℕ) (o : Outcome) → k < length os → at (set os k o) k ≡ o
told_in_place os k o h = get_or-set_same os k o (LeftOut NotRetained) h

pub at_taken : (m k : ℕ) (os : List Outcome) → k < m → at (take m os) k ≡ at os k
at_taken m k os h = get_or-take m os k (LeftOut NotRetained) h

pub at_noted : (m k : ℕ) (notes : Notes) → k < m → at (outcomes_in m notes) k ≡ at notes.outcomes k
unfolding outcomes_in
at_noted m k notes h = at_taken m k notes.outcomes h

pub length_noted : (m : ℕ) (notes : Notes) → m ≤ length notes.outcomes → length (outcomes_in m notes) ≡ m
unfolding outcomes_in
length_noted m notes h = length-take-le m notes.outcomes h

-- what is told of the last of k + 1 records stands behind what is told of the first k
last_told : (k : ℕ) (notes : Notes) → k < length notes.outcomes → outcomes_in (k + 1) notes ≡ outcomes_in k notes ++ (at (outcomes_in (k + 1) notes) k ∷ [])
unfolding outcomes_in
last_told k notes h =
    ap (λ (n : ℕ). take n notes.outcomes) (add-one k)
    ∙ take-suc notes.outcomes k (LeftOut NotRetained) h
    ∙ ap (λ (x : Outcome). take k notes.outcomes ++ (x ∷ [])) (sym (at_noted (k + 1) k notes (omega arith)))

-- what is noted of a record tells its outcome
pub told_as_noted : (notes : Notes) (k : ℕ) (o : Outcome) → k < length notes.outcomes → at (outcomes_in (k + 1) (noted notes k o)) k ≡ o
told_as_noted notes k o h = at_noted (k + 1) k (noted notes k o) (omega arith) ∙ told_in_place notes.outcomes k o h

-- they depend on the row alone
pub row_tells : (before after : Notes) (k : ℕ) → after.outcomes ≡ before.outcomes → outcomes_in k after ≡ outcomes_in k before
unfolding outcomes_in
row_tells before after k e = ap (take k) e

-- an outcome more
pub noted_on : (before after : Notes) (k : ℕ) (o : Outcome) → k < length before.outcomes → after.outcomes ≡ set before.outcomes k o
    → outcomes_in (k + 1) after ≡ outcomes_in k before ++ (o ∷ [])
unfolding outcomes_in
noted_on before after k o h q =
    row_tells (noted before k o) after (k + 1) q
    ∙ last_told k (noted before k o) (omega (arith, h, length-set before.outcomes k o))
    ∙ ap (λ (x : Outcome). outcomes_in k (noted before k o) ++ (x ∷ [])) (told_as_noted before k o h)
    ∙ ap (λ (os : List Outcome). os ++ (o ∷ [])) (take-set-le k before.outcomes k o (omega arith))
