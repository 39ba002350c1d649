-- Inner: what the functions ask of one another, that payloads lie within the bytes and the limits; no promise names it.
use Rattle.std.specs.Prelude.{ℕ, ◌+◌, ◌*◌, ◌≤◌, List, length}
use Rattle.job_input.specs.declared.Field.{Field}
use Rattle.job_input.specs.declared.Places.{Places}
use Rattle.job_input.specs.JobLimits.{job_source_max, job_pairs_max, job_kept_max, job_map_max, job_requested_max}

pub record Payload (width most : ℕ) (xs : List ℕ) (f : Field) : Type 0 where
  pub inside : f.at + width * f.count ≤ length xs
  pub few : f.count ≤ most

pub record Payloads (xs : List ℕ) (p : Places) : Type 0 where
  pub source : Payload 1 job_source_max xs p.source
  pub pairs : Payload 6 job_pairs_max xs p.pairs
  pub kept : Payload 4 job_kept_max xs p.kept
  pub map : Payload 2 job_map_max xs p.map
  pub requested : Payload 2 job_requested_max xs p.requested
