-- The source's header, refusal 5 and the records (docs/RULES.md, "Numbers of refusal" and "Records").
use Rattle.std.specs.Prelude.{ℕ, ◌+◌, ◌*◌, List, Bool, Option, Some, None, not, length, ltb, eqb}
use Rattle.laws.specs.Choice.{pick, either, if_lt}
use Rattle.number.specs.BigEndian.{be}
use Rattle.number.specs.Limits.{records_max}
use Rattle.source_header.specs.declared.EncodingRecord.{EncodingRecord}

-- the header: version, count
abbrev pub version : List ℕ → ℕ
version xs = be 2 xs 0

abbrev pub record_count : List ℕ → ℕ
record_count xs = be 2 xs 2

-- refusal 5: the source is under 4 bytes, its version is not 0, it has over 64 records, or its records reach past its end
unfoldable pub refused5 : List ℕ → Bool
refused5 xs =
    either (ltb (length xs) 4)
    (either (not (eqb (version xs) 0))
    (either (ltb records_max (record_count xs)) (ltb (length xs) (4 + 8 * record_count xs))))

-- how many records the header announces; none is refusal 5
unfoldable pub header_of : List ℕ → Option ℕ
header_of xs = pick (refused5 xs) None (Some (record_count xs))

-- record k stands behind the header, 8 bytes each: platform, encoding, the subtable's offset from the table's start
abbrev pub platform_of : List ℕ → ℕ → ℕ
platform_of xs k = be 2 xs (4 + 8 * k)

abbrev pub encoding_of : List ℕ → ℕ → ℕ
encoding_of xs k = be 2 xs (6 + 8 * k)

abbrev pub offset_of : List ℕ → ℕ → ℕ
offset_of xs k = be 4 xs (8 + 8 * k)

abbrev pub record_of : List ℕ → ℕ → EncodingRecord
record_of xs k = record { platform = platform_of xs k; encoding = encoding_of xs k; offset = offset_of xs k }

-- none where its 8 bytes are not all there, whatever the count says
unfoldable pub entry_at : List ℕ → ℕ → Option EncodingRecord
entry_at xs k = if_lt (length xs) (12 + 8 * k) None (Some (record_of xs k))
