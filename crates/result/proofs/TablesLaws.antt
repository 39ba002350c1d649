-- The table that a record makes, wherever it stands: how long it is, as what it is read, and what a lookup finds in it.
use Rattle.std.specs.Prelude.{Some, None}
use Prim.Native.Nat.{ℕ, ◌<◌}
use mathlib.Core.Path.{◌≡◌, sym, ap, subst, ◌∙◌}
use mathlib.Core.List.{List}
use native.Mathlib.Omega.{arith}
use lib.ListN.{length}
use Rattle.laws.specs.Choice.{pick}
use Rattle.laws.specs.Lists.{pairs}
use Rattle.laws.specs.Listed.{listed_as, listed_glyph}
use Rattle.laws.proofs.StandsLaws.{Stands}
use Rattle.format4_cutting.specs.Cutting.{segments}
use Rattle.source.specs.declared.Kind.{Kind}
use Rattle.source.specs.declared.Kind.TheVariants.{Format4, Format12, Format14}
use Rattle.source_header.specs.Header.{offset_of}
use Rattle.source.specs.Kind.{kind_at, format_of}
use Rattle.source.proofs.KindLaws.{tells14}
use Rattle.source_records.specs.Records.{leads_to}
use Rattle.heads_lookup.specs.Lookup.{lookup4, lookup12, glyph_of}
use Rattle.plan_listing.specs.Job.{Job, glyph_count}
use Rattle.plan_listing.specs.Listing.{maps}
use Rattle.format4_lookup.specs.Lookup.{found_in}
use Rattle.format4_lookup.proofs.Format4KindLaws.{format4_kind_stands}
use Rattle.format4_lookup.proofs.Format4FindsLaws.{format4_gives_stands, format4_finds_stands}
use Rattle.format12.specs.Format12.{groups}
use Rattle.format12_lookup.proofs.BytesLaws.{groups_few}
use Rattle.format12_lookup.proofs.Format12KindLaws.{length_is, format12_kind_stands}
use Rattle.format12_lookup.proofs.Format12FindsLaws.{format12_gives_stands, format12_finds_stands}
use Rattle.format14.specs.Format14.{rows}
use Rattle.format14.proofs.ShortLaws.{Modest, rows_few, rows_short}
use Rattle.format14.proofs.WholeLaws.{length-format14}
use Rattle.plan.specs.declared.Outcome.TheVariants.{Made}
use Rattle.plan.specs.Fresh.{listed_of, job14_of, table_as, table_of, fresh}
use Rattle.result.specs.Lent.{Lent}
use Rattle.result.proofs.ListedLaws.{above_listed, fits_listed, listed_glyph_lem}
use Rattle.result.proofs.MadeLaws.{made_length, by_format, made_written4, language12_fits, table_is}
use Rattle.result.proofs.Format14Laws.{format14_kind_stands}

module _ {j : Job} (l : Lent j) (k : ℕ) where
  -- a format 14 record's source and lists keep to the limits
  pub modest : {r len : ℕ} → leads_to j.source k ≡ Format14 r len → Modest (job14_of j k len)
  unfolding leads_to
  modest e =
      let t = tells14 j.source (offset_of j.source k) e in
      record { few = omega (arith, t.records, t.few); short = omega (arith, t.fits, l.source_short); kept_few = l.kept_few }

  module _ (n : ℕ) (made : fresh j k ≡ Made n) where
    long_as : (kind : Kind) → leads_to j.source k ≡ kind → n ≡ length (table_as kind j k)
    long_as kind e = made_length j k n made ∙ ap length (table_is j k kind e)

    -- no table is longer than 31 bits can say
    pub made_short : n < 2147483648
    made_short =
        by_format j k n made (n < 2147483648)
        (λ language s len e. omega (arith, long_as (Format4 language s len) e, (made_written4 j k n made e l.bytes).short))
        (λ language g len e. omega (arith, long_as (Format12 language g len) e, length_is language (listed_of j k), groups_few (listed_of j k) (above_listed l k)))
        (λ r len e. omega (arith, long_as (Format14 r len) e, length-format14 (rows (job14_of j k len)), rows_short (job14_of j k len) (modest e)))

    -- ---- at a place of any bytes

    module _ {xs : List ℕ} {at : ℕ} (st : Stands xs at (table_of j k)) where
      stands_as : (kind : Kind) → leads_to j.source k ≡ kind → Stands xs at (table_as kind j k)
      stands_as kind e = subst (Stands xs at) (table_is j k kind e) st

      module _ {language s len : ℕ} (e : leads_to j.source k ≡ Format4 language s len) where
        -- a readable format 4 of the source's language
        pub made_kind4 : kind_at xs at ≡ Format4 language (length (segments (listed_of j k))) n
        made_kind4 =
            format4_kind_stands language (listed_of j k) (stands_as (Format4 language s len) e) (made_written4 j k n made e l.bytes)
            ∙ ap (Format4 language (length (segments (listed_of j k)))) (sym (long_as (Format4 language s len) e))

        found4 : (c : ℕ) → lookup4 xs at c ≡ found_in (listed_of j k) c
        found4 c = format4_gives_stands language (listed_of j k) (fits_listed l k (ap format_of e)) (made_written4 j k n made e l.bytes) (stands_as (Format4 language s len) e) c

        glyph4 : (c : ℕ) → glyph_of (lookup4 xs at c) ≡ listed_glyph (listed_of j k) c
        glyph4 c = format4_finds_stands language (listed_of j k) (fits_listed l k (ap format_of e)) (made_written4 j k n made e l.bytes) (stands_as (Format4 language s len) e) c

      module _ {language g len : ℕ} (e : leads_to j.source k ≡ Format12 language g len) where
        -- a readable format 12 of the source's language
        pub made_kind12 : kind_at xs at ≡ Format12 language (length (groups (listed_of j k))) n
        made_kind12 =
            format12_kind_stands language (listed_of j k) (language12_fits j k l.bytes e) (above_listed l k) (stands_as (Format12 language g len) e)
            ∙ ap (Format12 language (length (groups (listed_of j k)))) (sym (long_as (Format12 language g len) e))

        found12 : (c : ℕ) → lookup12 xs at c ≡ listed_as None Some (listed_of j k) c
        found12 c = format12_gives_stands language (listed_of j k) (language12_fits j k l.bytes e) (above_listed l k) (stands_as (Format12 language g len) e) c

        glyph12 : (c : ℕ) → glyph_of (lookup12 xs at c) ≡ listed_glyph (listed_of j k) c
        glyph12 c = format12_finds_stands language (listed_of j k) (language12_fits j k l.bytes e) (above_listed l k) (stands_as (Format12 language g len) e) c

      module _ {r len : ℕ} (e : leads_to j.source k ≡ Format14 r len) where
        -- a readable format 14
        pub made_kind14 : kind_at xs at ≡ Format14 (length (rows (job14_of j k len))) n
        made_kind14 =
            let m = modest e in
            format14_kind_stands (rows (job14_of j k len)) (rows_few (job14_of j k len) m) (omega (arith, rows_short (job14_of j k len) m)) (stands_as (Format14 r len) e)
            ∙ ap (Format14 (length (rows (job14_of j k len)))) (sym (long_as (Format14 r len) e))

      -- a readable subtable of the record's own format
      pub made_format : format_of (kind_at xs at) ≡ format_of (leads_to j.source k)
      made_format =
          by_format j k n made (format_of (kind_at xs at) ≡ format_of (leads_to j.source k))
          (λ language s len e. ap format_of (made_kind4 e) ∙ sym (ap format_of e))
          (λ language g len e. ap format_of (made_kind12 e) ∙ sym (ap format_of e))
          (λ r len e. ap format_of (made_kind14 e) ∙ sym (ap format_of e))

      -- ---- lookups, by the record's format alone

      by4 : (P : Type 0) → format_of (leads_to j.source k) ≡ 4 → ((language s len : ℕ) → leads_to j.source k ≡ Format4 language s len → P) → P
      by4 P f h =
          by_format j k n made P h
          (λ language g len e. absurd (omega (arith, sym (ap format_of e) ∙ f)))
          (λ r len e. absurd (omega (arith, sym (ap format_of e) ∙ f)))

      by12 : (P : Type 0) → format_of (leads_to j.source k) ≡ 12 → ((language g len : ℕ) → leads_to j.source k ≡ Format12 language g len → P) → P
      by12 P f h =
          by_format j k n made P (λ language s len e. absurd (omega (arith, sym (ap format_of e) ∙ f)))
          h
          (λ r len e. absurd (omega (arith, sym (ap format_of e) ∙ f)))

      abbrev mapped : ℕ → ℕ
      mapped c = pick (maps j.source (glyph_count j) k c) (listed_glyph (pairs j.codes j.glyphs) c) 0

      as_mapped : (c : ℕ) → listed_glyph (listed_of j k) c ≡ mapped c
      as_mapped c = listed_glyph_lem j.source (glyph_count j) j.codes j.glyphs k c

      module _ (f : format_of (leads_to j.source k) ≡ 4) (c : ℕ) where
        pub made_found4 : lookup4 xs at c ≡ found_in (listed_of j k) c
        made_found4 = by4 (lookup4 xs at c ≡ found_in (listed_of j k) c) f (λ language s len e. found4 e c)

        pub made_finds4 : glyph_of (lookup4 xs at c) ≡ listed_glyph (listed_of j k) c
        made_finds4 = by4 (glyph_of (lookup4 xs at c) ≡ listed_glyph (listed_of j k) c) f (λ language s len e. glyph4 e c)

        -- the listed glyph where the source's subtable maps the number, else 0
        pub made_glyph4 : glyph_of (lookup4 xs at c) ≡ mapped c
        made_glyph4 = made_finds4 ∙ as_mapped c

      module _ (f : format_of (leads_to j.source k) ≡ 12) (c : ℕ) where
        pub made_found12 : lookup12 xs at c ≡ listed_as None Some (listed_of j k) c
        made_found12 = by12 (lookup12 xs at c ≡ listed_as None Some (listed_of j k) c) f (λ language g len e. found12 e c)

        pub made_finds12 : glyph_of (lookup12 xs at c) ≡ listed_glyph (listed_of j k) c
        made_finds12 = by12 (glyph_of (lookup12 xs at c) ≡ listed_glyph (listed_of j k) c) f (λ language g len e. glyph12 e c)

        pub made_glyph12 : glyph_of (lookup12 xs at c) ≡ mapped c
        made_glyph12 = made_finds12 ∙ as_mapped c
