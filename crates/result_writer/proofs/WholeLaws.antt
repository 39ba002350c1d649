-- Header, records and tables, one behind the other, are the result.
use Prim.Native.Nat.{ℕ, ◌+◌, ◌*◌, ◌≤◌}
use mathlib.Core.Path.{◌≡◌, sym, ap, ◌∙◌}
use mathlib.Core.List.{List, ◌++◌}
use native.Mathlib.Omega.{arith}
use lib.ListN.{length, take}
use lib.Seq.{sets}
use Rattle.laws.proofs.SetsLaws.{sets-append}
use Rattle.number.specs.BigEndian.{enc}
use Rattle.number.proofs.BigEndianLaws.{length-enc}
use Rattle.plan_listing.specs.Job.{Job, job}
use Rattle.plan.specs.declared.Outcome.{Outcome}
use Rattle.source_header.specs.Header.{record_count}
use Rattle.plan.specs.declared.Outcome.TheVariants.{Made}
use Rattle.plan.specs.Outcomes.{at}
use Rattle.plan.specs.Fresh.{table_of}
use Rattle.plan.specs.declared.Notes.{Notes}
use Rattle.plan.specs.Notes.{outcomes_in}
use Rattle.plan.specs.Plan.{plan}
use Rattle.plan.proofs.OutcomesLaws.{length-plan}
use Rattle.result.specs.Result.{written_count, tables_start, new_offset, records_from, tables_from, result_of}
use Rattle.result.specs.Layout.{place_by_sizes, result_length}
use Rattle.result.proofs.MadeLaws.{made_length}
use Rattle.result.proofs.PlanLaws.{plan_made}
use Rattle.result_writer.specs.RecordParts.{Laid}
use Rattle.result_writer.specs.Writing.{WritesPlan}
use Rattle.result.proofs.LengthLaws.{length_records, records_alike, offset_place}
use Rattle.result_writer.proofs.PlannedLaws.{laid}

-- header, records and tables stored one behind the other are stored as one
joined : (out one two fin count records tables : List ℕ) → one ≡ sets out 0 (enc 2 0 ++ count) → two ≡ sets one 4 records → fin ≡ sets two (4 + length records) tables
    → length count ≡ 2 → fin ≡ sets out 0 (enc 2 0 ++ (count ++ (records ++ tables)))
joined out one two fin count records tables a b c l =
    rw (
      c,
      b,
      sets-append one 4 records tables,
      a,
      ← sets-append out 0 (enc 2 0) count,
      ← sets-append out 0 (enc 2 0) (count ++ (records ++ tables)),
      length-enc 2 0,
      ← sets-append (sets out 0 (enc 2 0)) 2 count (records ++ tables),
      l,
    )

module _ (xs cs gs kept map requested : List ℕ) (notes : Notes) (count : ℕ) (fs tocs togs : List ℕ) where
  abbrev j : Job
  j = job xs cs gs kept map requested

  abbrev os : List Outcome
  os = outcomes_in (record_count xs) notes

  module _ (p : WritesPlan j notes count fs tocs togs) where
    pub writes_long : 4 ≤ length xs
    writes_long = omega (arith, p.prepared.counted.inside)

    pub writes_few : count ≤ 64
    writes_few = omega (arith, p.counts.few, p.counts.told.few)

    pub planned_laid : (m : ℕ) → m ≡ record_count xs → Laid xs (take m notes.outcomes) count
    unfolding outcomes_in
    planned_laid m e = rw e (laid j notes count fs tocs togs p)

    pub header_room : (out : List ℕ) → result_length os ≤ length out → 4 ≤ length out
    header_room out h = omega arith

    pub records_room : (out next : List ℕ) → result_length os ≤ length out → length next ≡ length out → 4 + 8 * count ≤ length next
    records_room out next h e = omega (arith, p.counts.is)

    all : length (plan j) ≡ record_count xs
    all = length-plan j

    pub whole_is : (m : ℕ) (out one two fin : List ℕ) → m ≡ record_count xs → one ≡ sets out 0 (enc 2 0 ++ enc 2 count)
        → two ≡ sets one 4 (records_from (place_by_sizes (take m notes.outcomes)) xs (take m notes.outcomes) (length (take m notes.outcomes)) 0)
        → fin ≡ sets two (tables_start os) (tables_from j os (record_count xs) 0) → fin ≡ sets out 0 (result_of j (plan j))
    unfolding result_of outcomes_in
    whole_is m out one two fin q a b c =
        let ps = plan j in
        let records = records_from (new_offset j ps) xs ps (length ps) 0 in
        let tables = tables_from j ps (length ps) 0 in
        let count_is : count ≡ written_count ps = rw p.is at p.counts.is in
        let b₁ : two ≡ sets one 4 (records_from (place_by_sizes ps) xs ps (record_count xs) 0) = rw (q, p.is, all) at b in
        let b₂ : two ≡ sets one 4 records = b₁ ∙ ap (λ (z : List ℕ). sets one 4 z) (records_same (records_alike (place_by_sizes ps) (new_offset j ps) xs ps (λ k. sym (offset_place j ps (made_as j) k)) (record_count xs) 0)) in
        let c₁ : fin ≡ sets two (tables_start ps) (tables_from j ps (record_count xs) 0) = rw p.is at c in
        let c₂ : fin ≡ sets two (tables_start ps) tables = c₁ ∙ ap (λ (n : ℕ). sets two (tables_start ps) (tables_from j ps n 0)) (sym all) in
        let far : tables_start ps ≡ 4 + length records = ap (λ (n : ℕ). 4 + n) (sym (length_records (new_offset j ps) xs ps (length ps) 0)) in
        joined out one two fin (enc 2 (written_count ps)) records tables (rw count_is at a) b₂ (rw far at c₂) (length-enc 2 (written_count ps))
      where
        records_same : records_from (place_by_sizes (plan j)) xs (plan j) (record_count xs) 0 ≡ records_from (new_offset j (plan j)) xs (plan j) (record_count xs) 0
            → records_from (place_by_sizes (plan j)) xs (plan j) (record_count xs) 0 ≡ records_from (new_offset j (plan j)) xs (plan j) (length (plan j)) 0
        records_same e = e ∙ ap (λ (n : ℕ). records_from (new_offset j (plan j)) xs (plan j) n 0) (sym all)

        made_as : (i : Job) (k n : ℕ) → at (plan i) k ≡ Made n → n ≡ length (table_of i k)
        made_as i k n e = made_length i k n (plan_made i k n e).is

pub ruleset whole = (writes_long, writes_few, planned_laid, header_room, records_room, whole_is)
