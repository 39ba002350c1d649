-- What the promise of the call comes to: each number exactly when it is due, nothing written by a refusal, the result and the output's rest by an acceptance, and one answer only.
use Rattle.std.specs.Prelude.{Ok, Err}
use Prim.Native.Nat.{ℕ, ◌<◌, ◌≤◌}
use mathlib.Core.Path.{◌≡◌, refl, sym, ap, subst, ◌∙◌}
use mathlib.Core.List.{List, ◌∷◌, ◌++◌}
use mathlib.Core.Bool.{Bool, true, false}
use native.Mathlib.Omega.{arith}
use lib.Dec.{ltb, eqb}
use lib.ListN.{length, take, drop, length-append}
use lib.Seq.{take_at}
use borrow.Author.Tests.{eqb-true, eqb-false, eq-eqb, ltb-true, ltb-false, le-ltb}
use Rattle.laws.specs.Choice.{pick}
use Rattle.laws.specs.Lists.{laid}
use Rattle.laws.proofs.ChoiceLaws.{by_pick, by_leb, false-true}
use Rattle.laws.proofs.AnyLaws.{any_of-some}
use Rattle.laws.proofs.SomeLaws.{some-false}
use Rattle.plan.proofs.OutcomesLaws.{length-plan}
use Rattle.source_header.specs.Header.{record_count}
use Rattle.plan_listing.specs.Job.{Job}
use Rattle.plan.specs.declared.Outcome.{Outcome}
use Rattle.plan.specs.declared.Why.{Why}
use Rattle.plan.specs.declared.Why.TheVariants.{NotRetained, Skipped, Empty, TooLong, Covered}
use Rattle.plan.specs.declared.Outcome.TheVariants.{LeftOut, BadMapping, Served, Made}
use Rattle.plan.specs.Outcomes.{is_bad}
use Rattle.plan.specs.Plan.{plan, refused8}
use Rattle.result.specs.Result.{written_count, new_offset}
use Rattle.plan.specs.Outcomes.{at}
use Rattle.result.specs.Refusal.{refusal_number, refusal_numbered, Condition, first_of, refusal_of, rises}
use Rattle.result.proofs.RefusalLaws.{GivenExactly, given_exactly, Accepted, accepted_exactly, passed, number_of_numbered}
use Rattle.cmap_promise.specs.declared.Written.{Written}
use Rattle.cmap_promise.specs.declared.Unwritten.TheVariants.{Refused, NoRoom}
use Rattle.cmap_promise.specs.declared.Fate.{Fate}
use Rattle.cmap_promise.specs.declared.FateKind.TheVariants.{Refused as FateRefused, NoSuchRecord}
use Rattle.cmap_promise.specs.Fates.{fate_number_of, left_out_as, kind_of, record_fate, no_fate, fate_of}
use Rattle.cmap_promise.specs.Cmap.{Answer, number_of, length_of, result, refusals_in, number_in, answer_of, leaves, output_of}
use Rattle.cmap_promise.proofs.NumberLaws.{number_refused, number_passed, refusal_low}

-- ---- the number

all_rise : (j : Job) (room : ℕ) → rises 0 (refusals_in j room) ≡ true
unfolding rises
all_rise j room = refl

-- a refusal's number is given exactly when its condition holds and none before it does
pub numbered_exactly : (j : Job) (room : ℕ) (front back : List Condition) (n : ℕ) (b : Bool) → refusals_in j room ≡ front ++ ((n, b) ∷ back) → GivenExactly (number_in j room) front n b
unfolding number_in
numbered_exactly j room front back n b e =
    let r = subst (λ (cs : List Condition). rises 0 cs ≡ true) e (all_rise j room) in
    subst (λ (cs : List Condition). GivenExactly (first_of cs) front n b) (sym e) (given_exactly front back n b r)

-- an acceptance exactly where no condition holds
pub accepted_exactly_in : (j : Job) (room : ℕ) → Accepted (number_in j room) (refusals_in j room)
unfolding number_in
accepted_exactly_in j room = accepted_exactly (refusals_in j room) (all_rise j room)

-- the number of the refusal that an answer or a fate tells
told_number : (j : Job) → eqb (refusal_of j) 0 ≡ false → refusal_number (refusal_numbered (refusal_of j)) ≡ refusal_of j
told_number j z =
    let n = eqb-false (refusal_of j) 0 z in
    number_of_numbered (refusal_of j) (omega (arith, n)) (refusal_low j)

-- the answer's own number
pub number_answered : (j : Job) (room : ℕ) → number_of (answer_of j room) ≡ number_in j room
unfolding answer_of
number_answered j room =
    let accepted : Answer = Ok (record { bytes = length (result j); records = written_count (plan j) }) in
    let short : Answer = Err (NoRoom (length (result j))) in
    by_pick (λ a. number_of a ≡ number_in j room) (eqb (refusal_of j) 0) (pick (ltb room (length (result j))) short accepted) (Err (Refused (refusal_numbered (refusal_of j))))
    (λ z.
    let e = number_passed j room (eqb-true (refusal_of j) 0 z) in
    by_pick (λ a. number_of a ≡ number_in j room) (ltb room (length (result j))) short accepted (λ t. rw (e, t) refl) (λ t. rw (e, t) refl))
    (λ z.
    let n = eqb-false (refusal_of j) 0 z in
    told_number j z ∙ sym (number_refused j room (omega (arith, n))))

-- ---- an acceptance

accepted_passed : (j : Job) (room : ℕ) → number_in j room ≡ 0 → refusal_of j ≡ 0
accepted_passed j room e =
    by_leb (refusal_of j ≡ 0) 1 (refusal_of j)
    (λ h. absurd (omega (arith, h, sym (number_refused j room h) ∙ e)))
    (λ h. omega arith)

pub accepted_fits : (j : Job) (room : ℕ) → number_in j room ≡ 0 → length (result j) ≤ room
accepted_fits j room e =
    let q = sym (number_passed j room (accepted_passed j room e)) ∙ e in
    ltb-false room (length (result j)) (go (ltb room (length (result j))) q)
  where
    go : (t : Bool) → ◌≡◌ {A = ℕ} (pick t 10 0) 0 → t ≡ false
    go true f = absurd (omega arith)
    go false f = refl

accepted_answer : (j : Job) (room : ℕ) → number_in j room ≡ 0 → answer_of j room ≡ Ok (record { bytes = length (result j); records = written_count (plan j) })
unfolding answer_of
accepted_answer j room e = rw (eq-eqb (refusal_of j) 0 (accepted_passed j room e), le-ltb room (length (result j)) (accepted_fits j room e)) refl

-- an answer with a number leaves the output
number_keeps : (a : Answer) (new out : List ℕ) → 0 < number_of a → leaves a new out ≡ out
number_keeps (Ok written) new out h = absurd (omega arith)
number_keeps (Err unwritten) new out h = refl

module _ (j : Job) (out : List ℕ) where
  pub accepted_output : number_in j (length out) ≡ 0 → output_of j out ≡ laid (result j) out
  unfolding output_of
  accepted_output e = rw (accepted_answer j (length out) e) refl

  pub refused_output : 0 < number_in j (length out) → output_of j out ≡ out
  unfolding output_of
  refused_output h = number_keeps (answer_of j (length out)) (result j) out (omega (arith, h, number_answered j (length out)))

  module _ (a : Written) (w : answer_of j (length out) ≡ Ok a) where
    accepted : number_in j (length out) ≡ 0
    accepted = sym (number_answered j (length out)) ∙ ap number_of w

    -- no refusal held
    pub written_passed : refusal_of j ≡ 0
    written_passed = accepted_passed j (length out) accepted

    pub written_length : a.bytes ≡ length (result j)
    written_length = ap length_of (sym w ∙ accepted_answer j (length out) accepted)

    -- what is written stands in the first places
    pub written_fits : a.bytes ≤ length (output_of j out)
    written_fits = rw (accepted_output accepted, written_length) (omega (arith, length-append (result j) (drop (length (result j)) out)))

    pub written_front : take a.bytes (output_of j out) ≡ result j
    written_front = rw (accepted_output accepted, written_length) (take_at (result j) (drop (length (result j)) out) (length (result j)) refl)

-- ---- one answer only

-- any two results that an equation with a definition allows are equal
pub once : {A : Type 0} {a b : A} (c : A) → a ≡ c → b ≡ c → a ≡ b
once c e f = e ∙ sym f

pub fate_once : (j : Job) (k : ℕ) {a b : Fate} → a ≡ fate_of j k → b ≡ fate_of j k → a ≡ b
fate_once j k = once (fate_of j k)

-- what the promise allows
pub record Allowed (j : Job) (out : List ℕ) (a : Answer) (fin : List ℕ) : Type 0 where
  pub answer : a ≡ answer_of j (length out)
  pub output : fin ≡ output_of j out

pub allowed_once : {j : Job} {out : List ℕ} {a b : Answer} {fin last : List ℕ} → Allowed j out a fin → Allowed j out b last → (a ≡ b) × (fin ≡ last)
allowed_once {j} {out} x y = (once (answer_of j (length out)) x.answer y.answer, once (output_of j out) x.output y.output)

-- ---- the number of a fate

why_number : (why : Why) → fate_number_of (left_out_as why) ≡ 0
why_number NotRetained = refl
why_number Skipped = refl
why_number Empty = refl
why_number TooLong = refl
why_number Covered = refl

kind_number_lem : (offset : ℕ → ℕ) (o : Outcome) (k : ℕ) → is_bad o ≡ false → fate_number_of (kind_of offset o k) ≡ 0
kind_number_lem offset (LeftOut why) k e = why_number why
kind_number_lem offset BadMapping k e = absurd (false-true (sym e))
kind_number_lem offset (Served by) k e = refl
kind_number_lem offset (Made size) k e = refl

-- it is the job's refusal, and 0 where there is none: refusal 8 leaves no bad mapping
pub fate_number : (j : Job) (k : ℕ) → fate_number_of (fate_of j k).kind ≡ refusal_of j
unfolding fate_of refused8
fate_number j k =
    let os = plan j in
    let count = record_count j.source in
    let fate = record_fate (new_offset j os) j.source os k in
    let P : Fate → Type 0 = λ f. fate_number_of f.kind ≡ refusal_of j in
    by_pick P (eqb (refusal_of j) 0) (pick (ltb k count) fate (no_fate NoSuchRecord)) (no_fate (FateRefused (refusal_numbered (refusal_of j))))
    (λ e.
    let z = eqb-true (refusal_of j) 0 e in
    let none = sym (any_of-some is_bad (LeftOut NotRetained) os) ∙ (passed j z).mappings in
    by_pick P (ltb k count) fate (no_fate NoSuchRecord)
    (λ l.
    kind_number_lem (new_offset j os) (at os k) k (some-false (λ i. is_bad (at os i)) (length os) 0 none k (omega arith) (omega (arith, ltb-true k count l, length-plan j))) ∙ sym z)
    (λ l. sym z))
    (λ e. told_number j e)
