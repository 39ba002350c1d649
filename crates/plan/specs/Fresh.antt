-- What a record works on, the table it makes, and what becomes of it where no earlier table serves it (docs/RULES.md, "Records").
use Rattle.std.specs.Prelude.{ℕ, List, []}
use Rattle.laws.specs.Lists.{Pair}
use Rattle.source.specs.declared.Kind.{Kind}
use Rattle.source.specs.declared.Kind.TheVariants.{Format4, Format12, Format14, Unreadable}
use Rattle.source_header.specs.Header.{offset_of}
use Rattle.source_records.specs.Records.{leads_to}
use Rattle.plan_listing.specs.Job.{Job, glyph_count}
use Rattle.plan_listing.specs.Listing.{listed}
use Rattle.format4.specs.declared.Size4.{Size4}
use Rattle.format4.specs.declared.Size4.TheVariants.{Empty as Empty4, TooLong as TooLong4, Fits}
use Rattle.format4.specs.Format4.{format4}
use Rattle.format4.specs.Size.{size_of4, length_of4}
use Rattle.format12.specs.Format12.{format12, size_of12}
use Rattle.format14.specs.Selectors.{Job14, job14}
use Rattle.format14.specs.declared.Outcome14.{Outcome14}
use Rattle.format14.specs.declared.Outcome14.TheVariants.{Refused8, Empty as Empty14, Length}
use Rattle.format14.specs.Format14.{format14, rows, outcome14}
use Rattle.plan.specs.declared.Outcome.{Outcome}
use Rattle.plan.specs.declared.Why.TheVariants.{Skipped, Empty, TooLong}
use Rattle.plan.specs.declared.Outcome.TheVariants.{LeftOut, BadMapping, Made}

-- ---- what a record works on

-- the listed pairs that its subtable maps
abbrev pub listed_of : Job → ℕ → List Pair
listed_of j k = listed j.source (glyph_count j) j.codes j.glyphs k

-- a format 14 subtable of that length, and the lists that are lent
abbrev pub job14_of : Job → ℕ → ℕ → Job14
job14_of j k len = job14 j.source (offset_of j.source k) len j.kept j.new_glyphs j.requested

-- ---- the table it makes

abbrev pub table_as : Kind → Job → ℕ → List ℕ
table_as (Format4 language segments len) j k = format4 language (listed_of j k)
table_as (Format12 language groups len) j k = format12 language (listed_of j k)
table_as (Format14 selectors len) j k = format14 (rows (job14_of j k len))
table_as Unreadable j k = []

unfoldable pub table_of : Job → ℕ → List ℕ
table_of j k = table_as (leads_to j.source k) j k

-- ---- of a record that no earlier table serves

-- format 4 may be empty or too long
abbrev pub by4 : Size4 → Outcome
by4 Empty4 = LeftOut Empty
by4 TooLong4 = LeftOut TooLong
by4 (Fits n) = Made (length_of4 n)

-- format 14 may be empty, or name a glyph that is missing
abbrev pub by14 : Outcome14 → Outcome
by14 Refused8 = BadMapping
by14 Empty14 = LeftOut Empty
by14 (Length n) = Made n

-- format 12 is written in any case; what is unreadable or of another format is skipped
abbrev pub fresh_as : Kind → Job → ℕ → Outcome
fresh_as (Format4 language segments len) j k = by4 (size_of4 (listed_of j k))
fresh_as (Format12 language groups len) j k = Made (size_of12 (listed_of j k)).bytes
fresh_as (Format14 selectors len) j k = by14 (outcome14 (job14_of j k len))
fresh_as Unreadable j k = LeftOut Skipped

unfoldable pub fresh : Job → ℕ → Outcome
fresh j k = fresh_as (leads_to j.source k) j k
