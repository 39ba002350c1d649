-- A job's bytes taken apart (docs/RULES.md, "The job program"): five records in a fixed order and nothing behind them, or damaged bytes.
use Rattle.std.specs.Prelude.{ℕ, ◌+◌, ◌/◌, ◌%◌, List, [], Bool, length, take, drop, leb, eqb, Option, Some, None, option_map, option_and_then, unwrap_or}
use Rattle.laws.specs.Choice.{pick, both, if_eq}
use Rattle.number.specs.BigEndian.{be}
use Rattle.plan_listing.specs.Job.{Job, job}
use Rattle.job_input.specs.Column.{column}
use Rattle.job_input.specs.declared.Field.{Field}
use Rattle.job_input.specs.declared.Places.{Places}
use Rattle.job_input.specs.JobLimits.{job_source_max, job_pairs_max, job_kept_max, job_map_max, job_requested_max}

-- ---- one record: a two-byte mark, a 4-byte length, a payload

abbrev pub mark : List ℕ → ℕ → ℕ
mark xs at = be 2 xs at

abbrev pub size : List ℕ → ℕ → ℕ
size xs at = be 4 xs (at + 2)

-- the payload is whole entries of `width` bytes, at most `most` of them
unfoldable pub within : ℕ → ℕ → ℕ → Bool
within width most n = both (eqb (n % width) 0) (leb (n / width) most)

-- a record with this mark stands at `at`, and all its bytes are there
unfoldable pub stands : ℕ → ℕ → ℕ → List ℕ → ℕ → Bool
stands m width most xs at =
    both (leb (at + 6) (length xs))
    (both (eqb (mark xs at) m)
    (both (leb (at + 6 + size xs at) (length xs)) (within width most (size xs at))))

-- its payload, its entries, and where the next record starts
abbrev pub field_of : ℕ → List ℕ → ℕ → Field
field_of width xs at = record { at = at + 6; count = size xs at / width; end = at + 6 + size xs at }

unfoldable pub field_at : ℕ → ℕ → ℕ → List ℕ → ℕ → Option Field
field_at m width most xs at = pick (stands m width most xs at) (Some (field_of width xs at)) None

-- ---- the five records, once each, in this order, and nothing after RQ

-- what follows a record that stands; where it does not, the job is damaged
abbrev pub after : Option Field → (Field → Option Places) → Option Places
after found rest = option_and_then rest found

unfoldable pub located : List ℕ → Option Places
located xs =
    -- TB, the source: at most 32,768 bytes
    after (field_at 0x5442 1 job_source_max xs 0) (λ source.
    -- PR, the pairs: 6 bytes each, at most 2,048
    after (field_at 0x5052 6 job_pairs_max xs source.end) (λ pairs.
    -- KP, the kept code points: 4 bytes each, at most 4,096
    after (field_at 0x4B50 4 job_kept_max xs pairs.end) (λ kept.
    -- MP, the map: 2 bytes an entry, at most 8,192
    after (field_at 0x4D50 2 job_map_max xs kept.end) (λ map.
    -- RQ, the requested glyphs: 2 bytes each, at most 2,048
    after (field_at 0x5251 2 job_requested_max xs map.end) (λ requested.
    if_eq requested.end (length xs)
    (Some (record { source = source; pairs = pairs; kept = kept; map = map; requested = requested }))
    None)))))

-- ---- the lists

-- in a pair the code point comes first
abbrev pub job_at : List ℕ → Places → Job
job_at xs p = record {
  source = take p.source.count (drop p.source.at xs);
  codes = column 4 6 xs p.pairs.at p.pairs.count;
  glyphs = column 2 6 xs (p.pairs.at + 4) p.pairs.count;
  kept = column 4 4 xs p.kept.at p.kept.count;
  new_glyphs = column 2 2 xs p.map.at p.map.count;
  requested = column 2 2 xs p.requested.at p.requested.count;
}

-- the job, or None of damaged bytes
abbrev pub parse : List ℕ → Option Job
parse xs = option_map (job_at xs) (located xs)

-- the lists of damaged bytes are empty
abbrev pub parsed_job : Option Job → Job
parsed_job parsed = unwrap_or parsed (job [] [] [] [] [] [])
