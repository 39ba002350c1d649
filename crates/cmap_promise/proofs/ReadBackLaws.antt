-- An accepted result, read back by the definitions of a source, holds the records that the fates name, each leading to a table of the format that was written.
use Rattle.std.specs.Prelude.{Some}
use Prim.Native.Nat.{ℕ, ◌<◌, ◌≤◌}
use mathlib.Core.Path.{◌≡◌, refl, sym, ap, ◌∙◌}
use lib.ListN.{length}
use mathlib.Core.Bool.{Bool, true, false}
use native.Mathlib.Nat.{zero-add}
use borrow.Author.Tests.{eq-eqb, lt-ltb}
use Rattle.laws.proofs.ChoiceLaws.{false-true, by_leb}
use Rattle.laws.proofs.StandsLaws.{Stands}
use Rattle.number.specs.BigEndian.{Bytes}
use Rattle.source_header.specs.Header.{record_count, platform_of, encoding_of, header_of}
use Rattle.source_header.specs.Header.{offset_of}
use Rattle.source.specs.Kind.{kind_at, format_of}
use Rattle.source_header.proofs.HeaderLaws.{accepted_of, gives_records}
use Rattle.source_records.specs.Records.{leads_to}
use Rattle.plan_listing.specs.Job.{Job}
use Rattle.plan.specs.declared.Outcome.{Outcome}
use Rattle.plan.specs.declared.Why.{Why}
use Rattle.plan.specs.declared.Why.TheVariants.{NotRetained, Skipped, Empty, TooLong, Covered}
use Rattle.plan.specs.declared.Outcome.TheVariants.{LeftOut, BadMapping, Served, Made}
use Rattle.plan.specs.Sizes.{made_size}
use Rattle.plan.specs.Fresh.{table_of}
use Rattle.plan.specs.Plan.{plan}
use Rattle.result.specs.Lent.{Lent}
use Rattle.result.proofs.LentLaws.{lent}
use Rattle.result.proofs.TablesLaws.{made_format}
use Rattle.result.proofs.PlanLaws.{plan_past}
use Rattle.result.specs.Result.{count_from, written_count, new_offset}
use Rattle.plan.specs.Outcomes.{is_written, maker_of, at}
use Rattle.result.specs.Refusal.{refusal_of}
use Rattle.result.proofs.CountLaws.{count_one, count_find}
use Rattle.result.proofs.PlacesLaws.{Sound, accepted_result, maker_of_lem, entry_written, written_below, table_stands}
use Rattle.result.proofs.RefusalLaws.{passed}
use Rattle.result.proofs.SoundLaws.{making, plan_sound}
use Rattle.cmap_promise.specs.declared.Fate.{Fate}
use Rattle.cmap_promise.specs.declared.FateKind.{FateKind}
use Rattle.cmap_promise.specs.declared.FateKind.TheVariants.{NotRetained as FateNotRetained, Skipped as FateSkipped, Empty as FateEmpty, TooLong as FateTooLong, Covered as FateCovered, WrittenAt, Refused, NoSuchRecord}
use Rattle.cmap_promise.specs.Cmap.{result}
use Rattle.cmap_promise.specs.Fates.{left_out_as, kind_of, record_fate, fate_of}

-- record k of the source stands in the result, and leads to a readable table of its own format at the offset: the one that its maker made
pub record ReadsBack (j : Job) (k offset : ℕ) : Type 0 where
  pub place : ℕ
  pub inside : place < written_count (plan j)
  pub platform : platform_of (result j) place ≡ platform_of j.source k
  pub encoding : encoding_of (result j) place ≡ encoding_of j.source k
  pub leads : offset_of (result j) place ≡ offset
  pub format : format_of (leads_to (result j) place) ≡ format_of (leads_to j.source k)
  pub maker : ℕ
  pub earlier : maker ≤ k
  pub table : Stands (result j) offset (table_of j maker)

-- ---- what a fate says of an outcome

abbrev is_written_at : FateKind → Bool
is_written_at (WrittenAt offset) = true
is_written_at FateNotRetained = false
is_written_at FateSkipped = false
is_written_at FateEmpty = false
is_written_at FateTooLong = false
is_written_at FateCovered = false
is_written_at (Refused refusal) = false
is_written_at NoSuchRecord = false

abbrev offset_in : FateKind → ℕ
offset_in (WrittenAt offset) = offset
offset_in FateNotRetained = 0
offset_in FateSkipped = 0
offset_in FateEmpty = 0
offset_in FateTooLong = 0
offset_in FateCovered = 0
offset_in (Refused refusal) = 0
offset_in NoSuchRecord = 0

written_kind : (offset : ℕ → ℕ) (o : Outcome) (k : ℕ) → is_written o ≡ true → kind_of offset o k ≡ WrittenAt (offset (maker_of o k))
written_kind offset (LeftOut why) k e = absurd (false-true e)
written_kind offset BadMapping k e = absurd (false-true e)
written_kind offset (Served by) k e = refl
written_kind offset (Made size) k e = refl

left_out : (why : Why) → is_written_at (left_out_as why) ≡ false
left_out NotRetained = refl
left_out Skipped = refl
left_out Empty = refl
left_out TooLong = refl
left_out Covered = refl

kind_written : (offset : ℕ → ℕ) (o : Outcome) (k : ℕ) → is_written_at (kind_of offset o k) ≡ true → is_written o ≡ true
kind_written offset (LeftOut why) k e = absurd (false-true (sym (left_out why) ∙ e))
kind_written offset BadMapping k e = e
kind_written offset (Served by) k e = refl
kind_written offset (Made size) k e = refl

module _ (j : Job) (bytes : Bytes j.source) (accepted : refusal_of j ≡ 0) where
  limits : Lent j
  limits = lent j bytes (passed j accepted).sizes (passed j accepted).pairs

  few : record_count j.source ≤ 64
  few = (accepted_of j.source (passed j accepted).header).few

  sound : Sound j (plan j)
  sound = plan_sound j limits few

  -- the result's header is that of a source, and counts the records that are written
  pub result_header : header_of (result j) ≡ Some (written_count (plan j))
  result_header = sym (gives_records (result j) (accepted_result j (plan j) sound))

  fate_is : (k : ℕ) → k < record_count j.source → fate_of j k ≡ record_fate (new_offset j (plan j)) j.source (plan j) k
  unfolding fate_of
  fate_is k h = rw (eq-eqb (refusal_of j) 0 accepted, lt-ltb k (record_count j.source) h) refl

  inside_count : (k : ℕ) → is_written (at (plan j) k) ≡ true → k < record_count j.source
  inside_count k w =
      by_leb (k < record_count j.source) (record_count j.source) k
      (λ h. absurd (false-true (rw (plan_past j k h) at w)))
      (λ h. h)

  -- the fate of a record that is written
  pub written_fate : (k : ℕ) → is_written (at (plan j) k) ≡ true → (fate_of j k).kind ≡ WrittenAt (new_offset j (plan j) (maker_of (at (plan j) k) k))
  written_fate k w = ap (λ (r : Fate). r.kind) (fate_is k (inside_count k w)) ∙ written_kind (new_offset j (plan j)) (at (plan j) k) k w

  back : (k : ℕ) → is_written (at (plan j) k) ≡ true → ReadsBack j k (new_offset j (plan j) (maker_of (at (plan j) k) k))
  unfolding leads_to
  back k w =
      let os = plan j in
      let m = maker_of_lem j os sound k w in
      let maker = maker_of (at os k) k in
      let e = entry_written j os sound k w in
      let st = table_stands j os sound maker m.maker in
      let z = zero-add k in
      record {
        place = count_from os k 0;
        inside = count_one os (length os) 0 k (written_below j os sound k w) (rw z w);
        platform = e.platform;
        encoding = e.encoding;
        leads = e.offset;
        format = ap (λ (o : ℕ). format_of (kind_at (result j) o)) e.offset ∙ made_format limits maker (made_size (at os maker)) (making j limits few maker m.maker).is st ∙ m.alike;
        maker = maker;
        earlier = m.earlier;
        table = st;
      }

  -- what the fates say is written stands in the result
  pub fate_reads_back : (k offset : ℕ) → k < record_count j.source → (fate_of j k).kind ≡ WrittenAt offset → ReadsBack j k offset
  fate_reads_back k offset h f =
      let os = plan j in
      let q : kind_of (new_offset j os) (at os k) k ≡ WrittenAt offset = ap (λ (r : Fate). r.kind) (sym (fate_is k h)) ∙ f in
      let w = kind_written (new_offset j os) (at os k) k (ap is_written_at q) in
      let same : new_offset j os (maker_of (at os k) k) ≡ offset = ap offset_in (sym (written_kind (new_offset j os) (at os k) k w) ∙ q) in
      rw same at (back k w)

  -- and nothing else does: record i of the result is a record of the source whose fate says so
  pub record Told (i : ℕ) : Type 0 where
    pub from : ℕ
    pub there : from < record_count j.source
    pub fate : (fate_of j from).kind ≡ WrittenAt (offset_of (result j) i)
    pub at_place : count_from (plan j) from 0 ≡ i

  pub record_told : (i : ℕ) → i < written_count (plan j) → Told i
  record_told i h =
      let os = plan j in
      let t = count_find os (length os) 0 i h in
      let k = t.place in
      let w : is_written (at os k) ≡ true = rw (zero-add k) at t.written in
      let e = entry_written j os sound k w in
      let l = inside_count k w in
      record {
        from = k;
        there = l;
        fate = written_fate k w ∙ ap WrittenAt (sym e.offset ∙ ap (λ (n : ℕ). offset_of (result j) n) t.before);
        at_place = t.before;
      }
