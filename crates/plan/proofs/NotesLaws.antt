-- What is noted of the tables' ends stays true: where a record of format 14 is worked out, no earlier one made a table.
use Prim.Native.Nat.{ℕ, ◌+◌, ◌<◌, ◌≤◌}
use mathlib.Core.Path.{◌≡◌, refl, sym, ap, ◌∙◌}
use mathlib.Core.List.{List, [], ◌∷◌, ◌++◌}
use mathlib.Core.Bool.{true, false}
use mathlib.Core.Logic.{inl, ⊎_elim}
use native.Mathlib.Omega.{arith}
use lib.Dec.{eqb}
use lib.ListN.{length, get_or}
use lib.Seq.{get_or_at}
use borrow.Author.Tests.{eqb-true, eqb-false}
use Rattle.laws.proofs.ChoiceLaws.{by_test, both_left, false-true}
use Rattle.laws.proofs.FirstLaws.{first_holds, first_none}
use Rattle.source.specs.declared.Kind.TheVariants.{Format14}
use Rattle.source_header.specs.Header.{offset_of}
use Rattle.source.specs.Kind.{format_of}
use Rattle.source_records.specs.Records.{leads_to}
use Rattle.plan_listing.specs.Job.{Job}
use Rattle.plan.specs.declared.Outcome.{Outcome}
use Rattle.plan.specs.declared.Why.TheVariants.{NotRetained, Covered}
use Rattle.plan.specs.declared.Outcome.TheVariants.{LeftOut, BadMapping, Served, Made}
use Rattle.plan.specs.Outcomes.{at, is_made, serves, server}
use Rattle.plan.specs.Twins.{came_to_nothing, is_spent, spent}
use Rattle.plan.specs.declared.Notes.{Notes}
use Rattle.plan.specs.Notes.{outcomes_in, Fronted, Ended, Endings, Notebook, Leaves, Turned, Stays}
use Rattle.laws.proofs.ReadLaws.{get_or_before}
use Rattle.plan.proofs.NotedLaws.{at_noted}
use Rattle.plan.proofs.RecordNotesLaws.{fronted_same}

pub ended_same : (j : Job) (i : ℕ) (before after : List ℕ) → after ≡ before → Ended j i before → Ended j i after
ended_same j i before after q e = record { is = λ n len t. rw q (e.is n len t) }

-- ---- what makes no table notes nothing

nothing_made : (o : Outcome) → came_to_nothing o ≡ true → is_made o ≡ true → ⊥
nothing_made (LeftOut why) e m = false-true m
nothing_made BadMapping e m = false-true m
nothing_made (Served r) e m = false-true m
nothing_made (Made n) e m = false-true e

module _ (j : Job) (k : ℕ) where
  pub turned_spent : (r : ℕ) (o : Outcome) (ns : Notes) → r ≡ spent j.source (outcomes_in k ns) k → r < k → o ≡ at ns.outcomes r → Turned j k o ns ns
  unfolding spent is_spent
  turned_spent r o ns e h f =
      let s : is_spent j.source (outcomes_in k ns) k r ≡ true = rw (← e) at (first_holds (is_spent j.source (outcomes_in k ns) k) k 0 (omega (arith, e, h))) in
      let nothing = both_left (came_to_nothing (at (outcomes_in k ns) r)) (eqb (offset_of j.source r) (offset_of j.source k)) s in
      let told : came_to_nothing o ≡ true = rw (at_noted k r ns h, ← f) at nothing in
      record { this = λ m. absurd (nothing_made o told m); others = inl refl }

module _ (j : Job) (os : List Outcome) (k : ℕ) where
  unmade : (o : Outcome) (notes : Notes) → is_made o ≡ false → Stays j os k o notes notes
  unmade o notes e = record { this = λ m. absurd (false-true (sym e ∙ m)); others = λ i h m before. before }

  pub stays_none : (notes : Notes) → Stays j os k (LeftOut NotRetained) notes notes
  stays_none notes = unmade (LeftOut NotRetained) notes refl

  pub stays_covered : (notes : Notes) → Stays j os k (LeftOut Covered) notes notes
  stays_covered notes = unmade (LeftOut Covered) notes refl

  pub stays_served : (r : ℕ) (notes : Notes) → Stays j os k (Served r) notes notes
  stays_served r notes = unmade (Served r) notes refl

-- ---- a record that nothing serves

module _ (j : Job) (os : List Outcome) (k : ℕ) where
  alone : (i n len : ℕ) → k ≤ server j.source os k → i < k → is_made (at os i) ≡ true → format_of (leads_to j.source k) ≡ 14 → leads_to j.source i ≡ Format14 n len → ⊥
  unfolding server serves
  alone i n len h l m f q =
      let no : serves j.source os k i ≡ false = first_none (serves j.source os k) k 0 (omega (arith, h)) i (omega arith) (omega arith) in
      false-true (sym no ∙ rw (m, f, q))

  pub stays_fresh : (r : ℕ) (o : Outcome) (before after : Notes) → r ≡ server j.source os k → k ≤ r → Turned j k o before after → Stays j os k o before after
  stays_fresh r o before after e h t = record {
    this = t.this;
    others = λ i l m b.
        ⊎_elim
        (λ (q : after.ends ≡ before.ends). ended_same j i before.ends after.ends q b)
        (λ (f : format_of (leads_to j.source k) ≡ 14). record { is = λ n len q. absurd (alone i n len (omega (arith, e)) l m f q) })
        t.others;
  }

-- work room that was written to is work room still
pub notebook_again : (j : Job) (k : ℕ) (ot ot' : List ℕ) (ns : Notes) → Notebook j k ot ns → length ot' ≡ length ot → Notebook j k ot' ns
notebook_again j k ot ot' ns b e = record { inside = b.inside; kept-others = omega (arith, b.kept-others); fronted = b.fronted }

pub leaves_same : (j : Job) (k : ℕ) (ot : List ℕ) (ns : Notes) → Notebook j k ot ns → Leaves j ns ns
leaves_same j k ot ns b = record { row = refl; fronted = b.fronted }

module _ (j : Job) (before after : Notes) (row : after.outcomes ≡ before.outcomes) where
  pub leaves_front : Fronted j after → Leaves j before after
  leaves_front f = record { row = row; fronted = f }

  pub leaves_ends : (k : ℕ) (ot : List ℕ) → Notebook j k ot before → after.fronts ≡ before.fronts → Leaves j before after
  leaves_ends k ot b e = record { row = row; fronted = fronted_same j before after b.fronted (ap length row) e }

pub ruleset leaving = (leaves_same, leaves_front, leaves_ends)

pub ruleset staying = (leaves_same, turned_spent, stays_none, stays_covered, stays_served, stays_fresh)

-- ---- the walk

pub endings_start : (j : Job) (os : List Outcome) (ns : Notes) → Endings j os 0 ns
endings_start j os ns = record { each = λ i h m. absurd (omega arith) }

pub endings_on : (j : Job) (os : List Outcome) (k : ℕ) (o : Outcome) (before after : Notes) → length os ≡ k → Endings j os k before → Stays j os k o before after
    → Endings j (os ++ (o ∷ [])) (k + 1) after
endings_on j os k o before after l e s = record {
  each = λ i h m.
      by_test (Ended j i after.ends) (eqb i k)
      (λ t.
      let same : i ≡ k = eqb-true i k t in
      rw same (s.this (rw (same, get_or_at os o [] (LeftOut NotRetained) k l) at m)))
      (λ t.
      let below : i < k = omega (arith, eqb-false i k t) in
      let made : is_made (at os i) ≡ true = rw (get_or_before os (o ∷ []) i (LeftOut NotRetained) (omega (arith, below, l))) at m in
      s.others i below made (e.each i below made));
}

pub endings_same : (j : Job) (os : List Outcome) (m : ℕ) (before after : Notes) → after.ends ≡ before.ends → Endings j os m before → Endings j os m after
endings_same j os m before after q e = record { each = λ i h t. ended_same j i before.ends after.ends q (e.each i h t) }
