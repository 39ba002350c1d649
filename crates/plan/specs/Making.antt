-- Inner: what is asked for to work out a record and to make its table; no promise names it.
use Rattle.std.specs.Prelude.{ℕ, ◌≤◌, ◌≡◌, List, length}
use Rattle.laws.specs.Lists.{Rising}
use Rattle.number.specs.Limits.{source_max, pairs_max, kept_max}
use Rattle.source.specs.Kind.{format_of}
use Rattle.source_records.specs.Records.{leads_to, Placed}
use Rattle.plan_listing.specs.Job.{Job, glyph_count}
use Rattle.plan_listing.specs.Listing.{PointsFlagged, ColumnsWithRoom, FrontOfColumns}
use Rattle.format4.specs.declared.RangeCounter.{RangeCounter}
use Rattle.format4.specs.declared.Size4.{Size4}
use Rattle.format4.specs.declared.Size4.TheVariants.{Fits}
use Rattle.format4.specs.Size.{length_of4}
use Rattle.format14.specs.Streams.{CodePoints}
use Rattle.plan.specs.Fresh.{listed_of}

-- record k of the source is there, the font has a glyph count, the code points rise and each has a flag, and there is room for all pairs
pub record PairsRoom (j : Job) (k : ℕ) (flags tocodes toglyphs : List ℕ) : Type 0 where
  pub placed : Placed j.source k
  pub beside : PointsFlagged (glyph_count j) j.codes flags
  pub columns : ColumnsWithRoom j.codes j.glyphs tocodes toglyphs
  pub few : length j.codes ≤ pairs_max

-- the record leads to a readable subtable of that format
pub record Leads (xs : List ℕ) (k format : ℕ) : Type 0 where
  pub is : format_of (leads_to xs k) ≡ format

-- what a plan notes of a record's listed pairs: how many they are, where they are the first of the lent columns; else 0
abbrev pub Fronts : Job → ℕ → ℕ → Type 0
Fronts j k front = FrontOfColumns (listed_of j k) j.codes j.glyphs front

-- a format 4 size that was found is a length of 16 bits
pub record Short4 (size : Size4) : Type 0 where
  pub fits : (n : RangeCounter) → size ≡ Fits n → length_of4 n ≤ 65535

-- record k is there, the lists are those of a job that refusals 1 to 4 let pass, and the work room is long enough
pub record Ready (j : Job) (k : ℕ) (flags tocodes toglyphs : List ℕ) : Type 0 where
  pub pairs_ready : PairsRoom j k flags tocodes toglyphs
  pub source_small : length j.source ≤ source_max
  pub kept_rises : Rising j.kept
  pub kept_few : length j.kept ≤ kept_max
  pub kept_low : CodePoints j.kept
  pub requested_rises : Rising j.requested
  pub kept-flags : length j.kept ≤ length flags
