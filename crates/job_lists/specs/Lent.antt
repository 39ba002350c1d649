-- Inner: what the functions ask of one another, that arrays hold the job's lists; no promise names it.
use Rattle.std.specs.Prelude.{ℕ, ◌+◌, ◌≤◌, ◌≡◌, List, length, take, replicate}
use Rattle.std.proofs.lemmas.List.Edits.{sets}
use Rattle.plan_listing.specs.Job.{Job}
use Rattle.job_input.specs.declared.Places.{Places}
use Rattle.job_input.specs.Job.{job_at}
use Rattle.job_input.specs.JobLimits.{job_pairs_max, job_kept_max, job_map_max, job_requested_max}
use Rattle.job_lists.specs.declared.Lists.{Lists}

-- arrays that nothing was copied into
unfoldable pub no_lists : Lists
no_lists = record {
  codes = replicate job_pairs_max 0;
  glyphs = replicate job_pairs_max 0;
  kept = replicate job_kept_max 0;
  map = replicate job_map_max 0;
  requested = replicate job_requested_max 0;
}

-- the arrays with the job's lists at their fronts
abbrev pub with_lists : Lists → Job → Lists
with_lists l j = record {
  codes = sets l.codes 0 j.codes;
  glyphs = sets l.glyphs 0 j.glyphs;
  kept = sets l.kept 0 j.kept;
  map = sets l.map 0 j.new_glyphs;
  requested = sets l.requested 0 j.requested;
}

-- ---- arrays that were filled

-- the first n places hold the list
pub record AtFront (n : ℕ) (buffer list : List ℕ) : Type 0 where
  pub room : n ≤ length buffer
  pub is : take n buffer ≡ list

-- each list of the job, in as many places as its record has entries; the source stands in the bytes
pub record ListsHeld (xs : List ℕ) (p : Places) (l : Lists) : Type 0 where
  pub source : p.source.at + p.source.count ≤ length xs
  pub codes : AtFront p.pairs.count l.codes (job_at xs p).codes
  pub glyphs : AtFront p.pairs.count l.glyphs (job_at xs p).glyphs
  pub kept : AtFront p.kept.count l.kept (job_at xs p).kept
  pub map : AtFront p.map.count l.map (job_at xs p).new_glyphs
  pub requested : AtFront p.requested.count l.requested (job_at xs p).requested
