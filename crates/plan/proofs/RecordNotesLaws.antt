-- What is noted of a record, by the kind of its subtable.
use Prim.Native.Nat.{ℕ, ◌*◌, ◌<◌, ◌≤◌}
use mathlib.Core.Path.{◌≡◌, refl, sym, ap, ◌∙◌}
use mathlib.Core.Logic.{inl, inr}
use native.Mathlib.Omega.{arith}
use lib.Dec.{eqb}
use lib.ListN.{length, get_or, set, length-set, replicate, length-replicate}
use lib.Seq.{get_or-set_same, get_or-set_other}
use borrow.Author.Tests.{eqb-true, eqb-false}
use Rattle.laws.proofs.ChoiceLaws.{by_test}
use Rattle.number.specs.Limits.{records_max}
use Rattle.source.specs.declared.Kind.{Kind}
use Rattle.source.specs.declared.Kind.TheVariants.{Format4, Format12, Format14, Unreadable}
use Rattle.source.specs.Kind.{format_of}
use Rattle.source_records.specs.Records.{leads_to}
use Rattle.plan_listing.specs.Job.{Job}
use Rattle.laws.proofs.ReadLaws.{get_or_row}
use Rattle.plan.specs.Making.{Fronts}
use Rattle.format14.specs.Selectors.{selector_records}
use Rattle.format14.specs.ByNumber.{slot}
use Rattle.format14.specs.Ends.{Ends}
use Rattle.plan.specs.declared.Outcome.{Outcome}
use Rattle.plan.specs.declared.Notes.{Notes}
use Rattle.plan.specs.Fresh.{job14_of}
use Rattle.plan.specs.Notes.{Fronted, Turned}

-- ---- the first pairs of the lent columns

module _ (j : Job) where
  unknown : (k : ℕ) → Fronts j k 0
  unknown k = record { within = omega arith; is = λ h. absurd (omega arith) }

  pub fronted_none : (notes : Notes) → records_max ≤ length notes.outcomes → notes.fronts ≡ replicate 64 0 → Fronted j notes
  fronted_none notes l q = record {
    outcomes = l;
    fronts = rw q (omega (arith, length-replicate {A = ℕ} 64 0));
    each = λ k. rw (q, get_or_row {A = ℕ} 0 64 k) (unknown k);
  }

  pub fronted_on : (before after : Notes) (k front : ℕ) → Fronted j before → Fronts j k front → k < records_max
      → after.outcomes ≡ before.outcomes → after.fronts ≡ set before.fronts k front → Fronted j after
  fronted_on before after k front f q h o s = record {
    outcomes = rw o f.outcomes;
    fronts = rw s (omega (arith, f.fronts, length-set before.fronts k front));
    each = λ i.
        rw s
        (by_test (Fronts j i (get_or (set before.fronts k front) i 0)) (eqb i k)
        (λ t. rw (eqb-true i k t, get_or-set_same before.fronts k front 0 (omega (arith, h, f.fronts))) q)
        (λ t. rw (get_or-set_other before.fronts k i front 0 (eqb-false i k t)) (f.each i)));
  }

  -- what depends on the fronts alone
  pub fronted_same : (before after : Notes) → Fronted j before → length after.outcomes ≡ length before.outcomes → after.fronts ≡ before.fronts → Fronted j after
  fronted_same before after f o e = record { outcomes = omega (arith, f.outcomes, o); fronts = rw e f.fronts; each = λ k. rw e (f.each k) }

pub ruleset fronting = (fronted_none, fronted_on)

-- ---- the ends of a format 14's tables

abbrev length_in : Kind → ℕ
length_in (Format4 language segments len) = len
length_in (Format12 language groups len) = len
length_in (Format14 records len) = len
length_in Unreadable = 0

module _ (j : Job) (k : ℕ) (kind : Kind) (q : kind ≡ leads_to j.source k) (o : Outcome) where
  other_format : (f : ℕ) → format_of kind ≡ f → (f ≡ 14 → ⊥) → (before after : Notes) → after.ends ≡ before.ends → Turned j k o before after
  other_format f e unlike before after same = record {
    this = λ m. record { is = λ n len t. absurd (unlike (sym e ∙ ap format_of (q ∙ t))) };
    others = inl same;
  }

  pub turned_4 : (l s len : ℕ) (before after : Notes) → kind ≡ Format4 l s len → after.ends ≡ before.ends → Turned j k o before after
  turned_4 l s len before after e same = other_format 4 (ap format_of e) (λ h. omega arith) before after same

  pub turned_12 : (l g len : ℕ) (before after : Notes) → kind ≡ Format12 l g len → after.ends ≡ before.ends → Turned j k o before after
  turned_12 l g len before after e same = other_format 12 (ap format_of e) (λ h. omega arith) before after same

  pub turned_none : (notes : Notes) → kind ≡ Unreadable → Turned j k o notes notes
  turned_none notes e = other_format 0 (ap format_of e) (λ h. omega arith) notes notes refl

  pub turned_14 : (n len : ℕ) (before after : Notes) → kind ≡ Format14 n len
      → Ends (slot (job14_of j k len)) (2 * selector_records (job14_of j k len)) after.ends → Turned j k o before after
  turned_14 n len before after e h = record {
    this = λ m. record {
      is = λ n' len' t.
          let same : len ≡ len' = ap length_in (sym e ∙ (q ∙ t)) in
          rw (← same) h;
    };
    others = inr (ap format_of (sym q ∙ e));
  }

pub ruleset turning = (turned_4, turned_12, turned_none, turned_14)
