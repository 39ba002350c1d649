-- Inner: what a job that is not refused holds to (docs/RULES.md, "What is lent" and "Numbers of refusal", 1 and 2), as far as its tables rest on it; no promise names it.
use Rattle.std.specs.Prelude.{ℕ, ◌≤◌, length, get_or}
use Rattle.laws.specs.Lists.{Rising}
use Rattle.number.specs.BigEndian.{Bytes}
use Rattle.number.specs.Limits.{source_max, kept_max, unicode_max, new_glyph_max}
use Rattle.plan_listing.specs.Job.{Job}

pub record Lent (j : Job) : Type 0 where
  pub bytes : Bytes j.source
  pub source_short : length j.source ≤ source_max
  pub codes_rise : Rising j.codes
  pub codes_low : (i : ℕ) → get_or j.codes i 0 ≤ unicode_max
  pub glyphs_low : (i : ℕ) → get_or j.glyphs i 0 ≤ new_glyph_max
  pub kept_few : length j.kept ≤ kept_max
