-- The rows of a plan: a record that made a table is retained, not covered, and had none to serve it; a served one is served by such a record of its own format.
use Prim.Native.Nat.{ℕ, ◌<◌, ◌≤◌}
use mathlib.Core.Path.{◌≡◌, refl, sym, ap, ◌∙◌}
use mathlib.Core.Bool.{Bool, true, false}
use native.Mathlib.Omega.{arith}
use borrow.Author.Tests.{eqb-true, eq-eqb}
use Rattle.laws.specs.Choice.{both}
use Rattle.laws.proofs.ChoiceLaws.{by_leb, both_left, both_right, false-true}
use Rattle.laws.proofs.FirstLaws.{first_holds, first_none}
use Rattle.source_header.specs.Header.{record_count}
use Rattle.source.specs.Kind.{format_of}
use Rattle.source_records.specs.Records.{leads_to, leads_to_format, retained}
use Rattle.plan_listing.specs.Job.{Job, glyph_count}
use Rattle.plan.specs.Covered.{covered}
use Rattle.plan.specs.declared.Outcome.{Outcome}
use Rattle.plan.specs.declared.Why.TheVariants.{NotRetained, Covered}
use Rattle.plan.specs.declared.Outcome.TheVariants.{LeftOut, BadMapping, Served, Made}
use Rattle.plan.specs.Outcomes.{is_made, serves, at}
use Rattle.plan.specs.Sizes.{made_size}
use Rattle.plan.specs.Fresh.{fresh}
use Rattle.plan.specs.Plan.{outcome_of, outcomes, plan}
use Rattle.plan.proofs.SizeLaws.{made_size_lem}
use Rattle.plan.proofs.KindLaws.{fresh_never}
use Rattle.plan.proofs.OutcomesLaws.{outcome_past, outcome_at, server, by_outcome}
use Rattle.result.proofs.MadeLaws.{not_made}

-- ---- only the walk says that a record is served

abbrev is_served : Outcome → Bool
is_served (LeftOut why) = false
is_served BadMapping = false
is_served (Served by) = true
is_served (Made size) = false

abbrev server_of : Outcome → ℕ
server_of (LeftOut why) = 0
server_of BadMapping = 0
server_of (Served by) = by
server_of (Made size) = 0

not_served : (P : Type 0) (o : Outcome) (r : ℕ) → is_served o ≡ false → o ≡ Served r → P
not_served P o r f e = absurd (false-true (sym f ∙ ap is_served e))

-- ---- in the plan

-- record k made a table of n bytes: no record before it made one of its format
pub record Making (j : Job) (k n : ℕ) : Type 0 where
  pub inside : k < record_count j.source
  pub kept : retained j.source k ≡ true
  pub uncovered : covered j.source (glyph_count j) j.kept k ≡ false
  pub alone : (r size : ℕ) → r < k → at (plan j) r ≡ Made size → format_of (leads_to j.source r) ≡ format_of (leads_to j.source k) → ⊥
  pub is : fresh j k ≡ Made n

-- record k is written with the table that record r made
pub record Serving (j : Job) (k r : ℕ) : Type 0 where
  pub inside : k < record_count j.source
  pub kept : retained j.source k ≡ true
  pub uncovered : covered j.source (glyph_count j) j.kept k ≡ false
  pub earlier : r < k
  pub size : ℕ
  pub made : at (plan j) r ≡ Made size
  pub same : format_of (leads_to j.source r) ≡ format_of (leads_to j.source k)

module _ (j : Job) where
  plan-at : (k : ℕ) → k < record_count j.source → at (plan j) k ≡ outcome_of j (outcomes j k) k
  unfolding plan
  plan-at k h = outcome_at j (record_count j.source) k h

  pub plan_past : (k : ℕ) → record_count j.source ≤ k → at (plan j) k ≡ LeftOut NotRetained
  unfolding plan
  plan_past k h = outcome_past j (record_count j.source) k h

  -- a row under way holds what the plan holds
  plan_before : (k r : ℕ) → k < record_count j.source → r < k → at (outcomes j k) r ≡ at (plan j) r
  plan_before k r h l = outcome_at j k r l ∙ sym (plan-at r (omega arith))

  -- where none serves it, no record before it made a table of its format
  unlike : (k : ℕ) → k < record_count j.source → k ≤ server j (outcomes j k) k → (r size : ℕ) → r < k → at (plan j) r ≡ Made size
      → format_of (leads_to j.source r) ≡ format_of (leads_to j.source k) → ⊥
  unfolding serves
  unlike k h c r size l m f =
      let no = first_none (serves j.source (outcomes j k) k) k 0 (omega arith) r (omega arith) (omega arith) in
      false-true (sym no ∙ rw (plan_before k r h l, m, eq-eqb (format_of (leads_to j.source r)) (format_of (leads_to j.source k)) f))

  pub plan_made : (k n : ℕ) → at (plan j) k ≡ Made n → Making j k n
  plan_made k n e =
      by_leb (Making j k n) (record_count j.source) k
      (λ h. not_made (Making j k n) (LeftOut NotRetained) n refl (sym (plan_past k h) ∙ e))
      (λ h.
      let os = outcomes j k in
      by_outcome j os k (λ (o : Outcome). o ≡ Made n → Making j k n)
      (λ a q. not_made (Making j k n) (LeftOut NotRetained) n refl q)
      (λ a b q. not_made (Making j k n) (LeftOut Covered) n refl q)
      (λ a b c q. not_made (Making j k n) (Served (server j os k)) n refl q)
      (λ a b c q. record { inside = h; kept = a; uncovered = b; alone = unlike k h c; is = q })
      (sym (plan-at k h) ∙ e))

  serving : (k r : ℕ) → k < record_count j.source → retained j.source k ≡ true → covered j.source (glyph_count j) j.kept k ≡ false → r < k
      → serves j.source (outcomes j k) k r ≡ true → Serving j k r
  unfolding serves
  serving k r h a b l d =
      let o = at (plan j) r in
      let f = leads_to_format (format_of (leads_to j.source k)) j.source r in
      let both-are : both (is_made o) f ≡ true = rw (plan_before k r h l) at d in
      record {
        inside = h;
        kept = a;
        uncovered = b;
        earlier = l;
        size = made_size o;
        made = made_size_lem o (both_left (is_made o) f both-are);
        same = eqb-true (format_of (leads_to j.source r)) (format_of (leads_to j.source k)) (both_right (is_made o) f both-are);
      }

  pub plan_served : (k r : ℕ) → at (plan j) k ≡ Served r → Serving j k r
  plan_served k r e =
      by_leb (Serving j k r) (record_count j.source) k
      (λ h. not_served (Serving j k r) (LeftOut NotRetained) r refl (sym (plan_past k h) ∙ e))
      (λ h.
      let os = outcomes j k in
      by_outcome j os k (λ (o : Outcome). o ≡ Served r → Serving j k r)
      (λ a q. not_served (Serving j k r) (LeftOut NotRetained) r refl q)
      (λ a b q. not_served (Serving j k r) (LeftOut Covered) r refl q)
      (λ a b c q.
      let same : server j os k ≡ r = ap server_of q in
      let l : r < k = omega (arith, same, c) in
      let d = rw same at (first_holds (serves j.source os k) k 0 (omega (arith, c))) in
      serving k r h a b l d)
      (λ a b c q. not_served (Serving j k r) (fresh j k) r (fresh_never j k is_served refl refl refl refl (λ n. refl)) q)
      (sym (plan-at k h) ∙ e))
