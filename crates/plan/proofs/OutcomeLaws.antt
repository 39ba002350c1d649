-- What becomes of a record, read off the code's answers.
use Prim.Native.Nat.{ℕ, ◌<◌, ◌≤◌}
use mathlib.Core.Path.{◌≡◌, sym, ◌∙◌}
use mathlib.Core.List.{List}
use mathlib.Core.Bool.{Bool, true, false}
use lib.ListN.{length}
use borrow.Author.Tests.{lt-ltb, le-ltb}
use Rattle.source_records.specs.Records.{retained}
use Rattle.plan.specs.Covered.{covered}
use Rattle.plan_listing.specs.Job.{Job, job}
use Rattle.plan.specs.declared.Outcome.{Outcome}
use Rattle.plan.specs.declared.Why.TheVariants.{NotRetained, Covered}
use Rattle.plan.specs.declared.Outcome.TheVariants.{LeftOut, Served}
use Rattle.plan.specs.Outcomes.{server}
use Rattle.plan.specs.Fresh.{fresh}
use Rattle.plan.specs.Plan.{retained_outcome, outcome_of}

module _ (xs cs gs kept map requested : List ℕ) (os : List Outcome) (k : ℕ) (t : Bool) where
  abbrev j : Job
  j = job xs cs gs kept map requested

  module _ (q : t ≡ covered xs (length map) kept k) where
    pub covered_yes : t ≡ true → LeftOut Covered ≡ retained_outcome j os k
    unfolding retained_outcome
    covered_yes e = rw (← q, e)

    module _ (e : t ≡ false) (r : ℕ) (f : r ≡ server xs os k) where
      pub served_by : r < k → Served r ≡ retained_outcome j os k
      unfolding retained_outcome
      served_by h = rw (← q, e, ← f, lt-ltb r k h)

      pub is_fresh : (o : Outcome) → k ≤ r → o ≡ fresh j k → o ≡ retained_outcome j os k
      unfolding retained_outcome
      is_fresh o h d = rw (← q, e, ← f, le-ltb r k h) d

  module _ (q : t ≡ retained xs k) where
    pub retained_yes : (o : Outcome) → t ≡ true → o ≡ retained_outcome j os k → o ≡ outcome_of j os k
    unfolding outcome_of
    retained_yes o e h = rw (← q, e) h

    pub retained_no : t ≡ false → LeftOut NotRetained ≡ outcome_of j os k
    unfolding outcome_of
    retained_no e = rw (← q, e)

pub retained_told : (xs : List ℕ) (k : ℕ) (t : Bool) → t ≡ retained xs k → t ≡ true → retained xs k ≡ true
retained_told xs k t q e = sym q ∙ e

pub ruleset outcome_rules = (covered_yes, served_by, is_fresh, retained_yes, retained_no, retained_told)
