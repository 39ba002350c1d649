-- What it takes for a record to make a table, and that the table is as long as the plan says.
use Prim.Native.Nat.{ℕ, ◌+◌, ◌<◌}
use mathlib.Core.Path.{◌≡◌, refl, sym, ap, subst, ◌∙◌}
use mathlib.Core.List.{List, [], ◌∷◌}
use mathlib.Core.Bool.{false}
use native.Mathlib.Omega.{arith}
use lib.Dec.{leb}
use lib.ListN.{length}
use Rattle.laws.specs.Lists.{Pair}
use Rattle.laws.specs.Linked.{Filled}
use Rattle.laws.proofs.ChoiceLaws.{false-true, by_pick}
use Rattle.number.specs.BigEndian.{Bytes}
use Rattle.number.proofs.BigEndianLaws.{be_lt}
use Rattle.source.specs.declared.Kind.{Kind}
use Rattle.source.specs.declared.Kind.TheVariants.{Format4, Format12, Format14, Unreadable}
use Rattle.source_header.specs.Header.{offset_of}
use Rattle.source.specs.Kind.{format_of}
use Rattle.source.proofs.KindLaws.{tells4, tells12}
use Rattle.source_records.specs.Records.{leads_to}
use Rattle.plan_listing.specs.Job.{Job}
use Rattle.format4.specs.declared.RangeCounter.{RangeCounter}
use Rattle.format4.specs.declared.Size4.{Size4}
use Rattle.format4.specs.declared.Size4.TheVariants.{Empty, TooLong, Fits}
use Rattle.format4.specs.Format4.{format4}
use Rattle.format4.specs.Size.{size_of4, count_of, length_of4}
use Rattle.format4.proofs.Format4Laws.{length-format4}
use Rattle.format4_lookup.specs.Lookup.{FieldsFit}
use Rattle.format4_lookup.proofs.Format4KindLaws.{fits_written}
use Rattle.format12.specs.Format12.{groups}
use Rattle.format12.proofs.TableLaws.{length_table}
use Rattle.format14.specs.declared.Outcome14.{Outcome14}
use Rattle.format14.specs.declared.Outcome14.TheVariants.{Refused8, Empty as Empty14, Length}
use Rattle.format14.specs.Format14.{outcome14}
use Rattle.format14.proofs.WholeLaws.{outcome_says}
use Rattle.plan.specs.declared.Outcome.{Outcome}
use Rattle.plan.specs.declared.Why.TheVariants.{Skipped}
use Rattle.plan.specs.declared.Outcome.TheVariants.{LeftOut, Made}
use Rattle.plan.specs.Outcomes.{is_made}
use Rattle.plan.specs.Sizes.{made_size}
use Rattle.plan.specs.Fresh.{listed_of, job14_of, table_as, table_of, by4, by14, fresh_as, fresh}

-- another outcome than a made table
pub not_made : (P : Type 0) (o : Outcome) (n : ℕ) → is_made o ≡ false → o ≡ Made n → P
not_made P o n f e = absurd (false-true (sym f ∙ ap is_made e))

-- ---- by format

-- format 4: there are pairs, and their subtable fits
record Made4 (language : ℕ) (ps : List Pair) (n : ℕ) : Type 0 where
  counter : RangeCounter
  is : size_of4 ps ≡ Fits counter
  long : n ≡ length (format4 language ps)
  some : Filled ps

module _ (language : ℕ) (ps : List Pair) where
  abbrev Told : Size4 → Type 0
  Told Empty = Unit {0}
  Told TooLong = Unit {0}
  Told (Fits c) = (length_of4 c ≡ length (format4 language ps)) × Filled ps

sized : (language : ℕ) (ps : List Pair) → Told language ps (size_of4 ps)
unfolding size_of4
sized language [] = tt
sized language (p ∷ ps) =
    by_pick (Told language (p ∷ ps)) (leb (length_of4 (count_of (p ∷ ps))) 65535) (Fits (count_of (p ∷ ps))) TooLong
    (λ e. (sym (length-format4 language (p ∷ ps)), tt)) (λ e. tt)

made4 : (language : ℕ) (ps : List Pair) (n : ℕ) (size : Size4) → size_of4 ps ≡ size → by4 size ≡ Made n → Made4 language ps n
made4 language ps n Empty q e = not_made (Made4 language ps n) (by4 Empty) n refl e
made4 language ps n TooLong q e = not_made (Made4 language ps n) (by4 TooLong) n refl e
made4 language ps n (Fits c) q e =
    let t = subst (Told language ps) q (sized language ps) in
    record { counter = c; is = q; long = sym (ap made_size e) ∙ t.0; some = t.1 }

-- format 14: no refusal, and a selector record
made14 : (o : Outcome14) (n : ℕ) → by14 o ≡ Made n → Length n ≡ o
made14 Refused8 n e = not_made (Length n ≡ Refused8) (by14 Refused8) n refl e
made14 Empty14 n e = not_made (Length n ≡ Empty14) (by14 Empty14) n refl e
made14 (Length m) n e = ap Length (sym (ap made_size e))

-- ---- a record that makes a table of n bytes

module _ (j : Job) (k n : ℕ) (made : fresh j k ≡ Made n) where
  made_as : (kind : Kind) → leads_to j.source k ≡ kind → fresh_as kind j k ≡ Made n
  unfolding fresh
  made_as kind e = rw e at made

  -- the table has n bytes
  pub made_length : n ≡ length (table_of j k)
  unfolding table_of
  made_length = go (leads_to j.source k) (made_as (leads_to j.source k) refl)
    where
      go : (kind : Kind) → fresh_as kind j k ≡ Made n → n ≡ length (table_as kind j k)
      go (Format4 language s len) e = (made4 language (listed_of j k) n (size_of4 (listed_of j k)) refl e).long
      go (Format12 language g len) e = sym (ap made_size e) ∙ sym (length_table 12 language (groups (listed_of j k)))
      go (Format14 r len) e = outcome_says (job14_of j k len) n (made14 (outcome14 (job14_of j k len)) n e)
      go Unreadable e = not_made (n ≡ 0) (LeftOut Skipped) n refl e

  -- the record leads to a readable subtable
  pub by_format : (P : Type 0) → ((language s len : ℕ) → leads_to j.source k ≡ Format4 language s len → P)
      → ((language g len : ℕ) → leads_to j.source k ≡ Format12 language g len → P)
      → ((r len : ℕ) → leads_to j.source k ≡ Format14 r len → P) → P
  by_format P f4 f12 f14 = go (leads_to j.source k) refl
    where
      go : (kind : Kind) → leads_to j.source k ≡ kind → P
      go (Format4 language s len) e = f4 language s len e
      go (Format12 language g len) e = f12 language g len e
      go (Format14 r len) e = f14 r len e
      go Unreadable e = not_made P (LeftOut Skipped) n refl (made_as Unreadable e)

  pub made_readable : format_of (leads_to j.source k) ≡ 0 → ⊥
  made_readable z =
      by_format ⊥
      (λ language s len e. absurd (omega (arith, sym (ap format_of e) ∙ z)))
      (λ language g len e. absurd (omega (arith, sym (ap format_of e) ∙ z)))
      (λ r len e. absurd (omega (arith, sym (ap format_of e) ∙ z)))

  module _ {language s len : ℕ} (e : leads_to j.source k ≡ Format4 language s len) where
    is4 : Made4 language (listed_of j k) n
    is4 = made4 language (listed_of j k) n (size_of4 (listed_of j k)) refl (made_as (Format4 language s len) e)

    -- there are pairs
    pub made_some4 : Filled (listed_of j k)
    made_some4 = is4.some

    -- its length and its language fit their fields
    pub made_written4 : Bytes j.source → FieldsFit language (listed_of j k)
    unfolding leads_to
    made_written4 b =
        fits_written language (listed_of j k) is4.is (rw (tells4 j.source (offset_of j.source k) e).language (be_lt 2 j.source (offset_of j.source k + 4) b))

-- ---- which table it is

module _ (j : Job) (k : ℕ) where
  pub table_is : (kind : Kind) → leads_to j.source k ≡ kind → table_of j k ≡ table_as kind j k
  unfolding table_of
  table_is kind e = ap (λ (x : Kind). table_as x j k) e

  pub language12_fits : {language g len : ℕ} → Bytes j.source → leads_to j.source k ≡ Format12 language g len → language < 4294967296
  unfolding leads_to
  language12_fits b e = rw (tells12 j.source (offset_of j.source k) e).language (be_lt 4 j.source (offset_of j.source k + 8) b)
