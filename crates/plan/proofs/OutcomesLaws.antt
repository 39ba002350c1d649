-- The list of outcomes: what is worked out stays, and by which way it came.
use Prim.Native.Nat.{ℕ, zero, suc, ◌<◌, ◌≤◌}
use mathlib.Core.Path.{◌≡◌, refl, ◌∙◌}
use mathlib.Core.List.{List, [], ◌∷◌}
use mathlib.Core.Bool.{Bool, true, false}
use native.Mathlib.Omega.{arith}
use lib.Dec.{ltb}
use lib.ListN.{length, length-append}
use lib.Seq.{get_or_at}
use borrow.Author.Tests.{ltb-true, ltb-false}
use Rattle.laws.specs.Choice.{pick}
use Rattle.laws.specs.Search.{first}
use Rattle.laws.proofs.ChoiceLaws.{by_pick, by_leb}
use Rattle.laws.proofs.ReadLaws.{get_or_before, get_or_past}
use Rattle.source_header.specs.Header.{record_count}
use Rattle.source_records.specs.Records.{retained}
use Rattle.plan_listing.specs.Job.{Job, glyph_count}
use Rattle.plan.specs.Covered.{covered}
use Rattle.plan.specs.declared.Why.TheVariants.{NotRetained, Covered}
use Rattle.plan.specs.declared.Outcome.{Outcome}
use Rattle.plan.specs.declared.Outcome.TheVariants.{LeftOut, Served}
use Rattle.plan.specs.Outcomes.{at, server as earliest, serves}
use Rattle.plan.specs.Fresh.{fresh}
use Rattle.plan.specs.Plan.{retained_outcome, outcome_of, outcomes, plan}

-- ---- the outcomes

module _ (j : Job) where
  pub length-outcomes : (m : ℕ) → length (outcomes j m) ≡ m
  unfolding outcomes
  length-outcomes zero = refl
  length-outcomes (suc m) = omega (arith, length-append (outcomes j m) (outcome_of j (outcomes j m) m ∷ []), length-outcomes m)

  pub length-plan : length (plan j) ≡ record_count j.source
  unfolding plan
  length-plan = length-outcomes (record_count j.source)

  -- records from m on are not worked out yet
  pub outcome_past : (m k : ℕ) → m ≤ k → at (outcomes j m) k ≡ LeftOut NotRetained
  outcome_past m k h = get_or_past (outcomes j m) k (LeftOut NotRetained) (omega (arith, length-outcomes m))

  -- those before it keep what was worked out
  pub outcome_at : (m k : ℕ) → k < m → at (outcomes j m) k ≡ outcome_of j (outcomes j k) k
  unfolding outcomes
  outcome_at zero k h = absurd (omega arith)
  outcome_at (suc m) k h =
      by_leb (at (outcomes j (suc m)) k ≡ outcome_of j (outcomes j k) k) m k
      (λ a.
      let same : k ≡ m = omega arith in
      rw same (get_or_at (outcomes j m) (outcome_of j (outcomes j m) m) [] (LeftOut NotRetained) m (length-outcomes m)))
      (λ a. get_or_before (outcomes j m) (outcome_of j (outcomes j m) m ∷ []) k (LeftOut NotRetained) (omega (arith, a, length-outcomes m)) ∙ outcome_at m k a)

-- ---- by outcome

module _ (j : Job) (os : List Outcome) (k : ℕ) where
  -- the first record before k whose table would serve it; k if there is none
  abbrev pub server : ℕ
  server = first (serves j.source os k) k 0

  abbrev pub keeps : Bool
  keeps = retained j.source k

  abbrev pub covers : Bool
  covers = covered j.source (glyph_count j) j.kept k

  pub by_outcome : (P : Outcome → Type 0) → (keeps ≡ false → P (LeftOut NotRetained)) → (keeps ≡ true → covers ≡ true → P (LeftOut Covered))
      → (keeps ≡ true → covers ≡ false → server < k → P (Served server)) → (keeps ≡ true → covers ≡ false → k ≤ server → P (fresh j k)) → P (outcome_of j os k)
  unfolding outcome_of retained_outcome earliest
  by_outcome P a b c d =
      by_pick P keeps (pick covers (LeftOut Covered) (pick (ltb server k) (Served server) (fresh j k))) (LeftOut NotRetained)
      (λ e. by_pick P covers (LeftOut Covered) (pick (ltb server k) (Served server) (fresh j k))
      (λ f. b e f)
      (λ f. by_pick P (ltb server k) (Served server) (fresh j k)
      (λ g. c e f (ltb-true server k g))
      (λ g. d e f (ltb-false server k g))))
      a
