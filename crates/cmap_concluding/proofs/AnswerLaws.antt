-- The answer by the plan is the answer of the job, and what each way out leaves in the output.
use Rattle.std.specs.Prelude.{Result, Ok, Err}
use Prim.Native.Nat.{ℕ, ◌<◌, ◌≤◌}
use mathlib.Core.Path.{◌≡◌, refl, sym, ap, ◌∙◌}
use mathlib.Core.List.{List}
use native.Mathlib.Omega.{arith}
use lib.Dec.{ltb, eqb}
use lib.ListN.{length}
use lib.Seq.{sets}
use borrow.Author.Tests.{eq-eqb, ne_eqb, eqb-true, lt-ltb, le-ltb, ltb-false}
use Rattle.laws.proofs.ChoiceLaws.{by_test}
use Rattle.laws.proofs.FrontLaws.{sets_front}
use Rattle.plan_listing.specs.Job.{Job}
use Rattle.plan.specs.declared.Outcome.{Outcome}
use Rattle.plan.specs.Plan.{plan}
use Rattle.result.proofs.MadeLaws.{made_length}
use Rattle.plan.specs.Fresh.{table_of}
use Rattle.result.proofs.PlanLaws.{plan_made}
use Rattle.result.specs.Result.{written_count}
use Rattle.result.specs.Layout.{result_length}
use Rattle.result.specs.declared.Refusal.{Refusal}
use Rattle.result.specs.Refusal.{refusal_number, refusal_told, refusal_of, early_refusal, late_refusal}
use Rattle.result.proofs.RefusalLaws.{number_above_zero, numbered_itself, told_some, told_case, told_none, refusal_early, refusal_late}
use Rattle.result.proofs.LengthLaws.{length_result}
use Rattle.result.proofs.CountLaws.{count_few}
use Rattle.result_layout.specs.Counts.{Counts}
use Rattle.plan.specs.declared.Outcome.TheVariants.{Made}
use Rattle.cmap_promise.specs.declared.Written.{Written}
use Rattle.cmap_promise.specs.declared.Unwritten.TheVariants.{Refused, NoRoom}
use Rattle.cmap_promise.specs.Cmap.{Answer, records_of, result, answer_of, leaves, output_of}
use Rattle.cmap_concluding.specs.Concluding.{Passing, Planned, answer_by}
use Rattle.plan.specs.Outcomes.{at}

-- ---- the ways out of the step from the plan

module _ (xs : List ℕ) (os : List Outcome) (room : ℕ) (late : Result (Unit {0}) Refusal) (e : refusal_told late ≡ late_refusal xs os) where
  abbrev n : ℕ
  n = late_refusal xs os

  pub by_late : (refusal : Refusal) → late ≡ Err refusal → Err (Refused refusal) ≡ answer_by xs os room
  unfolding answer_by
  by_late refusal q =
      let h = told_some late n e refusal q in
      rw (told_case late n e refusal q, ne_eqb n 0 (λ z. omega (arith, h, z))) refl

  module _ (u : Unit {0}) (q : late ≡ Ok u) (needed : ℕ) (l : needed ≡ result_length os) where
    pub by_room : room < needed → Err (NoRoom needed) ≡ answer_by xs os room
    unfolding answer_by
    by_room s = rw (eq-eqb n 0 (told_none late n e u q), ← l, lt-ltb room needed s) refl

    pub by_result : (count : ℕ) → needed ≤ room → count ≡ written_count os → Ok (record { bytes = needed; records = count }) ≡ answer_by xs os room
    unfolding answer_by
    by_result count s c = rw (eq-eqb n 0 (told_none late n e u q), ← l, le-ltb room needed s, c) refl

pub ruleset ways_out = (by_late, by_room, by_result)

-- ---- refusals

module _ (j : Job) (refusal : Refusal) (e : refusal_number refusal ≡ refusal_of j) where
  refused_answer : (room : ℕ) → Err (Refused refusal) ≡ answer_of j room
  unfolding answer_of
  refused_answer room =
      let h = number_above_zero refusal in
      rw (← e, ne_eqb (refusal_number refusal) 0 (λ r. omega (arith, h, r)), numbered_itself refusal) refl

  refused_output : (out : List ℕ) → out ≡ output_of j out
  unfolding output_of
  refused_output out = rw (← refused_answer (length out)) refl

module _ (j : Job) (r : Result (Unit {0}) Refusal) (e : refusal_told r ≡ early_refusal j) where
  module _ (refusal : Refusal) (q : r ≡ Err refusal) where
    pub first_is : refusal_number refusal ≡ refusal_of j
    first_is = ap refusal_told (sym q) ∙ e ∙ sym (refusal_early j (told_some r (early_refusal j) e refusal q))

    pub early_answer : (room : ℕ) → Err (Refused refusal) ≡ answer_of j room
    early_answer = refused_answer j refusal first_is

    pub early_output : (out : List ℕ) → out ≡ output_of j out
    early_output = refused_output j refusal first_is

  pub early_passing : (u : Unit {0}) → r ≡ Ok u → Passing j
  early_passing u q = record { passed = told_none r (early_refusal j) e u q }

pub ruleset early = (early_answer, early_output, early_passing)

-- ---- by the plan

-- each table is as long as the plan says
pub made_long : (j : Job) (k n : ℕ) → at (plan j) k ≡ Made n → n ≡ length (table_of j k)
made_long j k n e = made_length j k n (plan_made j k n e).is

module _ (j : Job) (os : List Outcome) (p : Planned j os) where
  late_is : late_refusal j.source os ≡ refusal_of j
  late_is = ap (late_refusal j.source) p.is ∙ sym (refusal_late j p.passing.passed)

  long : length (result j) ≡ result_length os
  long = length_result j (plan j) (made_long j) ∙ ap result_length (sym p.is)

  answer_is : (room : ℕ) → answer_by j.source os room ≡ answer_of j room
  unfolding answer_by answer_of
  answer_is room = rw (late_is, ← long, p.is) refl

  pub answer_told : (room : ℕ) (a : Answer) → a ≡ answer_by j.source os room → a ≡ answer_of j room
  answer_told room a q = q ∙ answer_is room

-- ---- by the answer

abbrev way_of : Answer → ℕ
way_of (Ok written) = 0
way_of (Err unwritten) = 1

-- what an acceptance says of the plan
pub record Accepts (xs : List ℕ) (os : List Outcome) (room count : ℕ) : Type 0 where
  pub passed : late_refusal xs os ≡ 0
  pub fits : result_length os ≤ room
  pub counted : count ≡ written_count os

accepts : (xs : List ℕ) (os : List Outcome) (room : ℕ) (w : Written) → answer_by xs os room ≡ Ok w → Accepts xs os room w.records
unfolding answer_by
accepts xs os room w e =
    let late = late_refusal xs os in
    by_test (Accepts xs os room w.records) (eqb late 0)
    (λ z. by_test (Accepts xs os room w.records) (ltb room (result_length os))
    (λ t. absurd (omega (arith, ap way_of (rw (z, t) at e))))
    (λ t. record { passed = eqb-true late 0 z; fits = ltb-false room (result_length os) t; counted = sym (ap records_of (rw (z, t) at e)) }))
    (λ z. absurd (omega (arith, ap way_of (rw z at e))))

-- an answer that writes nothing leaves the output as it was
unwritten : (a : Answer) (new out : List ℕ) → ((w : Written) → a ≡ Ok w → ⊥) → out ≡ leaves a new out
unwritten (Ok w) new out h = absurd (h w refl)
unwritten (Err why) new out h = refl

module _ (j : Job) (os : List Outcome) (p : Planned j os) (out : List ℕ) (a : Answer) (q : a ≡ answer_by j.source os (length out)) where
  answered : answer_of j (length out) ≡ a
  answered = sym (answer_told j os p (length out) a q)

  pub unwritten_keeps : ((w : Written) → a ≡ Ok w → ⊥) → out ≡ output_of j out
  unfolding output_of
  unwritten_keeps h = rw answered (unwritten a (result j) out h)

  module _ (w : Written) (e : a ≡ Ok w) where
    accepted : Accepts j.source os (length out) w.records
    accepted = accepts j.source os (length out) w (sym q ∙ e)

    pub accepted_counts : Counts os w.records
    accepted_counts = record {
      told = p.told;
      is = accepted.counted;
      few = omega (arith, accepted.counted, count_few os (length os) 0);
    }

    pub accepted_fits : result_length os ≤ length out
    accepted_fits = accepted.fits

    pub accepted_output : (fin : List ℕ) → fin ≡ sets out 0 (result j) → fin ≡ output_of j out
    unfolding output_of
    accepted_output fin s =
        let room : length (result j) ≤ length out = omega (arith, long j os p, accepted.fits) in
        rw (answered, e) (s ∙ sets_front out (result j) room)

pub ruleset outputs = (unwritten_keeps, accepted_counts, accepted_fits, accepted_output)
