-- What earlier records of the same pair or subtable tell of a record.
use Prim.Native.Nat.{ℕ, ◌<◌}
use mathlib.Core.Path.{◌≡◌, refl, sym, ap, ◌∙◌}
use mathlib.Core.List.{List}
use mathlib.Core.Bool.{Bool, true}
use native.Mathlib.Omega.{arith}
use lib.Dec.{leb, eqb}
use lib.ListN.{length, get_or}
use borrow.Author.Tests.{eqb-true}
use Rattle.laws.specs.Choice.{both}
use Rattle.laws.specs.Select.{select, any_of, eq_list}
use Rattle.laws.proofs.ChoiceLaws.{both_left, both_right, false-true}
use Rattle.laws.proofs.FirstLaws.{first_ext, first_holds}
use Rattle.source_header.specs.Header.{record_count, platform_of, encoding_of, offset_of}
use Rattle.source_records.specs.Records.{leads_to, bmp_pair, full_pair, retained}
use Rattle.plan.specs.Outcomes.{at}
use Rattle.plan.specs.Sibling.{is_sibling, first_sibling}
use Rattle.plan.specs.Covered.{reaches_above, map_alike, sibling_covers, covered}
use Rattle.plan_listing.specs.Job.{Job, job, glyph_count}
use Rattle.plan_listing.specs.Listing.{maps}
use Rattle.plan.specs.declared.Outcome.{Outcome}
use Rattle.plan.specs.Sizes.{Short}
use Rattle.plan.specs.Fresh.{fresh}
use Rattle.plan.specs.Plan.{outcomes}
use Rattle.plan.specs.Twins.{is_covered, came_to_nothing, is_twin, twin, is_spent, spent}
use Rattle.plan.specs.Earlier.{Earlier, Tells}
use Rattle.plan.specs.declared.Notes.{Notes}
use Rattle.plan.specs.Notes.{outcomes_in}
use Rattle.plan.proofs.NotedLaws.{at_noted}
use Rattle.plan.proofs.KindLaws.{fresh_never, leads_alike, maps_alike, fresh_alike}
use Rattle.plan.proofs.OutcomesLaws.{outcome_at, by_outcome, covers}

-- ---- what depends on the pair and the offset alone

record Alike (xs : List ℕ) (k r : ℕ) : Type 0 where
  platform : platform_of xs r ≡ platform_of xs k
  encoding : encoding_of xs r ≡ encoding_of xs k
  offset : offset_of xs r ≡ offset_of xs k

twin_alike : (xs : List ℕ) (k r : ℕ) → is_twin xs k r ≡ true → Alike xs k r
unfolding is_twin
twin_alike xs k r e =
    let p = eqb (platform_of xs r) (platform_of xs k) in
    let c = eqb (encoding_of xs r) (encoding_of xs k) in
    let o = eqb (offset_of xs r) (offset_of xs k) in
    let pc = both_left (both p c) o e in
    record {
      platform = eqb-true (platform_of xs r) (platform_of xs k) (both_left p c pc);
      encoding = eqb-true (encoding_of xs r) (encoding_of xs k) (both_right p c pc);
      offset = eqb-true (offset_of xs r) (offset_of xs k) (both_right (both p c) o e);
    }

retained_alike : (xs : List ℕ) (k r : ℕ) → Alike xs k r → retained xs r ≡ retained xs k
unfolding retained bmp_pair full_pair leads_to
retained_alike xs k r a = rw (a.platform, a.encoding, a.offset)

module _ (xs : List ℕ) (n : ℕ) (kept : List ℕ) (k r : ℕ) (a : Alike xs k r) where
  sibling_alike : first_sibling xs r ≡ first_sibling xs k
  unfolding first_sibling is_sibling
  sibling_alike =
      first_ext (is_sibling xs r) (is_sibling xs k) (record_count xs) 0
      (λ i p q. rw (a.platform, a.encoding, leads_alike xs k r a.offset))

  above_alike : reaches_above xs n kept r ≡ reaches_above xs n kept k
  unfolding reaches_above
  above_alike = ap (λ (m : ℕ → Bool). any_of (λ c. both (m c) (leb 0x10000 c)) kept) (maps_alike xs n k r a.offset)

  same_alike : (i : ℕ) → map_alike xs n kept r i ≡ map_alike xs n kept k i
  unfolding map_alike
  same_alike i = ap (λ (m : ℕ → Bool). eq_list (select m kept) (select (maps xs n i) kept)) (maps_alike xs n k r a.offset)

  covered_alike : covered xs n kept r ≡ covered xs n kept k
  unfolding covered sibling_covers
  covered_alike = rw (leads_alike xs k r a.offset, sibling_alike, above_alike, same_alike (first_sibling xs k))

-- ---- what the row tells

module _ (j : Job) (os : List Outcome) (k : ℕ) (e : Earlier j os k) where
  row_covered : (r : ℕ) → r < k → retained j.source r ≡ true → is_covered (at os r) ≡ covered j.source (glyph_count j) j.kept r
  row_covered r h keeps =
      rw (e.row, outcome_at j k r h)
      (by_outcome j (outcomes j r) r (λ (o : Outcome). is_covered o ≡ covers j (outcomes j r) r)
      (λ f. absurd (false-true (sym f ∙ keeps)))
      (λ f c. sym c)
      (λ f c h. sym c)
      (λ f c h. fresh_never j r is_covered refl refl refl refl (λ n. refl) ∙ sym c))

  row_spent : (r : ℕ) → r < k → came_to_nothing (at os r) ≡ true → at os r ≡ fresh j r
  row_spent r h =
      rw (e.row, outcome_at j k r h)
      (by_outcome j (outcomes j r) r (λ (o : Outcome). came_to_nothing o ≡ true → o ≡ fresh j r)
      (λ f c. absurd (false-true c))
      (λ f c d. absurd (false-true d))
      (λ f c h d. absurd (false-true d))
      (λ f c h d. refl))

  spent-fresh : (r : ℕ) → r ≡ spent j.source os k → r < k → at os r ≡ fresh j k
  unfolding spent is_spent
  spent-fresh r q h =
      let t : is_spent j.source os k r ≡ true = rw (← q) at (first_holds (is_spent j.source os k) k 0 (omega (arith, q, h))) in
      let n = came_to_nothing (at os r) in
      let o = eqb (offset_of j.source r) (offset_of j.source k) in
      row_spent r h (both_left n o t) ∙ fresh_alike j k r (eqb-true (offset_of j.source r) (offset_of j.source k) (both_right n o t))

module _ (xs cs gs kept map requested : List ℕ) (notes : Notes) (k : ℕ) where
  abbrev j : Job
  j = job xs cs gs kept map requested

  abbrev os : List Outcome
  os = outcomes_in k notes

  module _ (e : Earlier j os k) where
    pub tells_covered : retained xs k ≡ true → Tells xs (length map) kept os k
    tells_covered h = record { inside = e.inside; this = h; covers = row_covered j os k e }

    -- what is noted of an earlier record with the same subtable, which came to nothing
    module _ (r : ℕ) (o : Outcome) (f : o ≡ at notes.outcomes r) (p : r ≡ spent j.source os k) (l : r < k) where
      told : o ≡ at os r
      told = f ∙ sym (at_noted k r notes l)

      pub spent_short : Short o
      spent_short = rw told (e.small.each r)

      pub is_spent_lem : o ≡ fresh j k
      is_spent_lem = told ∙ spent-fresh j os k e r p l

pub twin-tells : (xs : List ℕ) (n : ℕ) (kept : List ℕ) (notes : Notes) (k r : ℕ) (o : Outcome) (t : Bool) → Tells xs n kept (outcomes_in k notes) k → r ≡ twin xs k → r < k
    → o ≡ at notes.outcomes r → t ≡ is_covered o → t ≡ covered xs n kept k
unfolding twin
twin-tells xs n kept notes k r o t w q h f e =
    let s : is_twin xs k r ≡ true = rw (← q) at (first_holds (is_twin xs k) k 0 (omega (arith, q, h))) in
    let a = twin_alike xs k r s in
    let d : t ≡ is_covered (at (outcomes_in k notes) r) = rw (at_noted k r notes h, ← f) e in
    d ∙ w.covers r h (retained_alike xs k r a ∙ w.this) ∙ covered_alike xs n kept k r a

pub ruleset twins = (tells_covered, spent_short, is_spent_lem, twin-tells)
