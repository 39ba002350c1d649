-- The limits of the program's jobs (docs/RULES.md, "The job program").
use Rattle.std.specs.Prelude.{ℕ}

abbrev pub job_source_max : ℕ
job_source_max = 32768

abbrev pub job_pairs_max : ℕ
job_pairs_max = 2048

abbrev pub job_kept_max : ℕ
job_kept_max = 4096

abbrev pub job_map_max : ℕ
job_map_max = 8192

abbrev pub job_requested_max : ℕ
job_requested_max = 2048
