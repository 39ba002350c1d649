-- What the old and the new print head give for a code point (docs/RULES.md, "Heads" and "Numbers of refusal").
use Rattle.std.specs.Prelude.{ℕ, List, Result, Ok, Err}
use Rattle.std.specs.Result.{result_unwrap_or}
use Rattle.laws.specs.Choice.{pick, if_lt}
use Rattle.laws.specs.Search.{first}
use Rattle.source_header.specs.Header.{refused5, record_count, offset_of}
use Rattle.source_records.specs.Records.{leads_to_format}
use Rattle.heads_lookup.specs.Lookup.{lookup4, lookup12, glyph_of}
use Rattle.heads.specs.declared.HeadRefusal.{HeadRefusal}
use Rattle.heads.specs.declared.HeadRefusal.TheVariants.{BadHeader, NothingReadable}

-- old: the first of the n records that leads to a readable format 4 answers; 11 if there is none
unfoldable pub old_of : List ℕ → ℕ → ℕ → Result ℕ HeadRefusal
old_of xs c n =
    let k = first (leads_to_format 4 xs) n 0 in
    if_lt k n (Ok (glyph_of (lookup4 xs (offset_of xs k) c))) (Err NothingReadable)

-- new: the first that leads to a readable format 12; as old if there is none
unfoldable pub new_of : List ℕ → ℕ → ℕ → Result ℕ HeadRefusal
new_of xs c n =
    let k = first (leads_to_format 12 xs) n 0 in
    if_lt k n (Ok (glyph_of (lookup12 xs (offset_of xs k) c))) (old_of xs c n)

-- 5 comes first; then the records that the header counts answer
unfoldable pub by_records : List ℕ → (ℕ → Result ℕ HeadRefusal) → Result ℕ HeadRefusal
by_records xs answer = pick (refused5 xs) (Err BadHeader) (answer (record_count xs))

abbrev pub old_head : List ℕ → ℕ → Result ℕ HeadRefusal
old_head xs c = by_records xs (old_of xs c)

abbrev pub new_head : List ℕ → ℕ → Result ℕ HeadRefusal
new_head xs c = by_records xs (new_of xs c)

-- an answer's number and glyph: a glyph comes with 0, a refusal with glyph 0
abbrev pub head_number_of : Result ℕ HeadRefusal → ℕ
head_number_of (Ok g) = 0
head_number_of (Err BadHeader) = 5
head_number_of (Err NothingReadable) = 11

abbrev pub printed_of : Result ℕ HeadRefusal → ℕ
printed_of answer = result_unwrap_or answer 0
