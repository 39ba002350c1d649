-- The walk over the records: what is noted so far is the list of outcomes so far.
use Prim.Native.Nat.{ℕ, suc, ◌+◌, ◌<◌, ◌≤◌}
use mathlib.Core.Path.{◌≡◌, refl, ap, ◌∙◌}
use mathlib.Core.List.{List, [], ◌∷◌, ◌++◌}
use native.Mathlib.Numerals.{add-one}
use native.Mathlib.Omega.{arith}
use lib.ListN.{length, set, length-set}
use lib.Seq.{get_or_at}
use Rattle.laws.proofs.ChoiceLaws.{by_leb}
use Rattle.number.specs.Limits.{records_max}
use Rattle.source_header.specs.Header.{record_count}
use Rattle.source_records.proofs.RecordsLaws.{placed}
use Rattle.plan_listing.specs.Job.{Job, glyph_count}
use Rattle.plan.specs.declared.Why.TheVariants.{NotRetained}
use Rattle.plan.specs.declared.Outcome.{Outcome}
use Rattle.plan.specs.declared.Outcome.TheVariants.{LeftOut}
use Rattle.plan.specs.Outcomes.{at}
use Rattle.plan.specs.Sizes.{Short, Small}
use Rattle.plan.specs.Making.{Ready}
use Rattle.plan.specs.CoveredFlags.{CoveredRoom}
use Rattle.plan.specs.Plan.{outcome_of, outcomes, plan}
use Rattle.plan.specs.Prepared.{Prepared}
use Rattle.plan.specs.declared.Notes.{Notes}
use Rattle.plan.specs.Notes.{outcomes_in, Fronted, Endings, Notebook, Leaves, Stays}
use Rattle.plan.specs.Earlier.{Earlier}
use Rattle.laws.proofs.ReadLaws.{get_or_before, get_or_past}
use Rattle.plan.proofs.NotedLaws.{length_noted, noted_on, row_tells}
use Rattle.plan.proofs.RecordNotesLaws.{fronted_same}
use Rattle.plan.proofs.NotesLaws.{endings_start, endings_on, endings_same}

-- ---- what is asked for each record

abbrev records : Job → ℕ
records j = record_count j.source

module _ (j : Job) (fs os tocs togs : List ℕ) (p : Prepared j fs os tocs togs) where
  pub ready : (k : ℕ) → k < records j → Ready j k fs tocs togs
  ready k h = record {
    pairs_ready = record {
      placed = placed j.source (records j) k p.counted h;
      beside = record { glyphs = p.few_glyphs; flagged = record { rising = p.codes_rise; beside = p.code_flags } };
      columns = p.columns;
      few = p.few_pairs;
    };
    source_small = p.source_small;
    kept_rises = p.kept_rises;
    kept_few = p.kept_few;
    kept_low = p.kept_low;
    requested_rises = p.requested_rises;
    kept-flags = p.kept-flags;
  }

  pub rooms : (k : ℕ) → k < records j → CoveredRoom j.source (records j) k (glyph_count j) j.kept fs os
  rooms k h = record {
    counted = p.counted;
    below = h;
    glyphs = p.few_glyphs;
    rising = p.kept_rises;
    beside = p.kept-flags;
    again = p.kept-others;
  }

  -- work room that was written to is work room still
  pub prepared_again : (fs' os' tocs' togs' : List ℕ) → length fs' ≡ length fs → length os' ≡ length os → length tocs' ≡ length tocs → length togs' ≡ length togs
      → Prepared j fs' os' tocs' togs'
  prepared_again fs' os' tocs' togs' a b c d = record {
    counted = p.counted;
    few_records = p.few_records;
    few_glyphs = p.few_glyphs;
    codes_rise = p.codes_rise;
    few_pairs = p.few_pairs;
    columns = record { even = p.columns.even; codes = omega (arith, p.columns.codes); glyphs = omega (arith, p.columns.glyphs) };
    source_small = p.source_small;
    kept_rises = p.kept_rises;
    kept_few = p.kept_few;
    kept_low = p.kept_low;
    requested_rises = p.requested_rises;
    code_flags = omega (arith, p.code_flags);
    kept-flags = omega (arith, p.kept-flags);
    kept-others = omega (arith, p.kept-others);
  }

-- ---- the outcomes stay small

small_snoc : (os : List Outcome) (o : Outcome) → Small os → Short o → Small (os ++ (o ∷ []))
small_snoc os o s h = record {
  each = λ i.
      by_leb (Short (at (os ++ (o ∷ [])) i)) (length os) i
      (λ a.
      by_leb (Short (at (os ++ (o ∷ [])) i)) (suc (length os)) i
      (λ b. rw (get_or_past (os ++ (o ∷ [])) i (LeftOut NotRetained) (omega (arith, b, length_snoc os))) (record { below = omega arith }))
      (λ b.
      let same : i ≡ length os = omega arith in
      rw (same, get_or_at os o [] (LeftOut NotRetained) (length os) refl) h))
      (λ a. rw (get_or_before os (o ∷ []) i (LeftOut NotRetained) a) (s.each i));
}
  where
    length_snoc : (xs : List Outcome) → length (xs ++ (o ∷ [])) ≡ suc (length xs)
    length_snoc [] = refl
    length_snoc (x ∷ xs) = ap suc (length_snoc xs)

-- ---- the walk

-- k of m records are worked out
pub record Planning (j : Job) (m : ℕ) (fs ot tocs togs : List ℕ) (ns : Notes) (k : ℕ) : Type 0 where
  pub prepared : Prepared j fs ot tocs togs
  pub all : m ≡ record_count j.source
  pub within : k ≤ m
  pub told : outcomes_in k ns ≡ outcomes j k
  pub small : Small (outcomes_in k ns)
  pub fronted : Fronted j ns
  pub endings : Endings j (outcomes_in k ns) k ns

pub planning_start : (j : Job) (m : ℕ) (fs ot tocs togs : List ℕ) (ns : Notes) → m ≡ record_count j.source → Prepared j fs ot tocs togs → Fronted j ns
    → Planning j m fs ot tocs togs ns 0
unfolding outcomes outcomes_in
planning_start j m fs ot tocs togs ns e p f = record {
  prepared = p;
  all = e;
  within = omega arith;
  told = refl;
  small = record { each = λ k. record { below = omega arith } };
  fronted = f;
  endings = endings_start j [] ns;
}

module _ (j : Job) (m : ℕ) (fs ot tocs togs : List ℕ) (ns : Notes) (k : ℕ) (l : Planning j m fs ot tocs togs ns k) where
  grown : (o : Outcome) → o ≡ outcome_of j (outcomes_in k ns) k → outcomes_in k ns ++ (o ∷ []) ≡ outcomes j (k + 1)
  unfolding outcomes
  grown o e = rw (add-one k, e, l.told)

  -- record k has come to o, with notes left as working it out leaves them, and is noted
  pub planning_on : (o : Outcome) (fs' ot' tocs' togs' : List ℕ) (ns' ns'' : Notes) → k < m → o ≡ outcome_of j (outcomes_in k ns) k → Short o
      → length fs' ≡ length fs → length ot' ≡ length ot → length tocs' ≡ length tocs → length togs' ≡ length togs
      → Leaves j ns ns' → Stays j (outcomes_in k ns) k o ns ns'
      → ns''.outcomes ≡ set ns'.outcomes k o → ns''.fronts ≡ ns'.fronts → ns''.ends ≡ ns'.ends
      → Planning j m fs' ot' tocs' togs' ns'' (k + 1)
  planning_on o fs' ot' tocs' togs' ns' ns'' h e s a b c d f w q fr en =
      let inside : k < records_max = omega (arith, l.all, l.prepared.few_records) in
      let long : k < length ns'.outcomes = omega (arith, inside, f.fronted.outcomes) in
      let before = row_tells ns ns' k f.row in
      let on : outcomes_in (k + 1) ns'' ≡ outcomes_in k ns ++ (o ∷ []) = rw (noted_on ns' ns'' k o long q, before) in
      let len = length_noted k ns (omega (arith, inside, l.fronted.outcomes)) in
      record {
        prepared = prepared_again j fs ot tocs togs l.prepared fs' ot' tocs' togs' a b c d;
        all = l.all;
        within = omega arith;
        told = on ∙ grown o e;
        small = rw on (small_snoc (outcomes_in k ns) o l.small s);
        fronted = fronted_same j ns' ns'' f.fronted (ap length q ∙ length-set ns'.outcomes k o) fr;
        endings = rw on (endings_same j (outcomes_in k ns ++ (o ∷ [])) (k + 1) ns' ns'' en (endings_on j (outcomes_in k ns) k o ns ns' len l.endings w));
      }

  done : m ≤ k → k ≡ records j
  done h = omega (arith, l.all, l.within)

  pub planning_done : m ≤ k → outcomes_in (records j) ns ≡ plan j
  unfolding plan
  planning_done h = rw (done h) at l.told

  pub planning_small : m ≤ k → Small (outcomes_in (records j) ns)
  planning_small h = rw (done h) at l.small

  pub planning_ended : m ≤ k → Endings j (outcomes_in (records j) ns) (records j) ns
  planning_ended h = rw (done h) at l.endings

  pub planning_fronted : Fronted j ns
  planning_fronted = l.fronted

  pub planning_ready : k < m → Ready j k fs tocs togs
  planning_ready h = ready j fs ot tocs togs l.prepared k (omega (arith, h, l.all))

  pub planning_rooms : k < m → CoveredRoom j.source (records j) k (glyph_count j) j.kept fs ot
  planning_rooms h = rooms j fs ot tocs togs l.prepared k (omega (arith, h, l.all))

  pub planning_earlier : k < m → Earlier j (outcomes_in k ns) k
  planning_earlier h = record { inside = omega (arith, l.all, l.prepared.few_records); row = l.told; small = l.small }

  pub planning_notebook : k < m → Notebook j k ot ns
  planning_notebook h = record {
    inside = omega (arith, l.all, l.prepared.few_records);
    kept-others = l.prepared.kept-others;
    fronted = l.fronted;
  }

pub ruleset planning =
    (planning_start, planning_on, planning_done, planning_small, planning_ended, planning_fronted, planning_ready, planning_rooms, planning_earlier, planning_notebook)

-- the work room keeps its lengths
pub record Kept (fs₀ ot₀ tocs₀ togs₀ fs ot tocs togs : List ℕ) : Type 0 where
  pub flags : length fs ≡ length fs₀
  pub others : length ot ≡ length ot₀
  pub codes : length tocs ≡ length tocs₀
  pub glyphs : length togs ≡ length togs₀
