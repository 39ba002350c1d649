-- Inner: what the walk over the records asks for; no promise names it.
use Rattle.std.specs.Prelude.{ℕ, ◌≤◌, ◌<◌, List, length}
use Rattle.laws.specs.Lists.{Rising}
use Rattle.number.specs.Limits.{records_max, pairs_max, source_max, kept_max}
use Rattle.source_header.specs.Header.{record_count}
use Rattle.source_records.specs.Records.{Counted}
use Rattle.plan_listing.specs.Job.{Job, glyph_count}
use Rattle.plan_listing.specs.Listing.{ColumnsWithRoom}
use Rattle.format14.specs.Streams.{CodePoints}

-- the lists are those of a job that refusals 1 to 4 let pass, its source has as many records as its header says, and the work room is long
-- enough for all of them
pub record Prepared (j : Job) (flags others tocodes toglyphs : List ℕ) : Type 0 where
  pub counted : Counted j.source (record_count j.source)
  pub few_records : record_count j.source ≤ records_max
  pub few_glyphs : glyph_count j < 65536
  pub codes_rise : Rising j.codes
  pub few_pairs : length j.codes ≤ pairs_max
  pub columns : ColumnsWithRoom j.codes j.glyphs tocodes toglyphs
  pub source_small : length j.source ≤ source_max
  pub kept_rises : Rising j.kept
  pub kept_few : length j.kept ≤ kept_max
  pub kept_low : CodePoints j.kept
  pub requested_rises : Rising j.requested
  pub code_flags : length j.codes ≤ length flags
  pub kept-flags : length j.kept ≤ length flags
  pub kept-others : length j.kept ≤ length others
