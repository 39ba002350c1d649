-- The whole result of a job, and where each record's table stands in it (docs/RULES.md, "Records").
use Rattle.std.specs.Prelude.{ℕ, zero, suc, ◌+◌, ◌*◌, ◌-◌, List, [], ◌++◌, Bool, length}
use Rattle.laws.specs.Choice.{pick, both}
use Rattle.number.specs.BigEndian.{enc}
use Rattle.source_header.specs.Header.{platform_of, encoding_of}
use Rattle.source_records.specs.Records.{leads_to_format}
use Rattle.plan_listing.specs.Job.{Job}
use Rattle.plan.specs.declared.Outcome.{Outcome}
use Rattle.plan.specs.Outcomes.{at, is_made, is_written, maker_of}
use Rattle.plan.specs.Fresh.{table_of}

-- record k of the source made a table of that format
abbrev pub makes : Job → List Outcome → ℕ → ℕ → Bool
makes j os format k = both (is_made (at os k)) (leads_to_format format j.source k)

-- how many of the n records from k on are written
unfoldable pub count_from : List Outcome → ℕ → ℕ → ℕ
count_from os zero k = 0
count_from os (suc n) k = let r = count_from os n (k + 1) in pick (is_written (at os k)) (suc r) r

abbrev pub written_count : List Outcome → ℕ
written_count os = count_from os (length os) 0

-- ---- the tables

-- the tables that the n records from k on made, the one made last first, without gaps
unfoldable pub tables_from : Job → List Outcome → ℕ → ℕ → List ℕ
tables_from j os zero k = []
tables_from j os (suc n) k = tables_from j os n (k + 1) ++ pick (is_made (at os k)) (table_of j k) []

-- they stand behind the header and the records
abbrev pub tables_start : List Outcome → ℕ
tables_start os = 4 + 8 * written_count os

-- those of later records stand before record k's
unfoldable pub new_offset : Job → List Outcome → ℕ → ℕ
new_offset j os k = tables_start os + length (tables_from j os (length os - (k + 1)) (k + 1))

-- ---- the records

-- a written record, where each record's table stands at an offset: platform, encoding, the offset of the table that it is written with
abbrev pub record_bytes : (ℕ → ℕ) → List ℕ → List Outcome → ℕ → List ℕ
record_bytes offset xs os k = enc 2 (platform_of xs k) ++ (enc 2 (encoding_of xs k) ++ enc 4 (offset (maker_of (at os k) k)))

-- the written records of the n from k on, in source order
unfoldable pub records_from : (ℕ → ℕ) → List ℕ → List Outcome → ℕ → ℕ → List ℕ
records_from offset xs os zero k = []
records_from offset xs os (suc n) k =
    let r = records_from offset xs os n (k + 1) in
    pick (is_written (at os k)) (record_bytes offset xs os k ++ r) r

-- ---- the whole

-- version 0, count, records, tables
unfoldable pub result_of : Job → List Outcome → List ℕ
result_of j os = enc 2 0 ++ (enc 2 (written_count os) ++ (records_from (new_offset j os) j.source os (length os) 0 ++ tables_from j os (length os) 0))
