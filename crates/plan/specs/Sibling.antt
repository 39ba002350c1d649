-- The sibling of a format 12 record (docs/RULES.md, "Format 12").
use Rattle.std.specs.Prelude.{ℕ, List, Bool, false, eqb}
use Rattle.laws.specs.Choice.{both, either}
use Rattle.laws.specs.Search.{first}
use Rattle.source.specs.declared.Kind.{Kind}
use Rattle.source.specs.declared.Kind.TheVariants.{Format4, Format12, Format14, Unreadable}
use Rattle.source_header.specs.Header.{record_count}
use Rattle.source_records.specs.Records.{leads_to, is_pair}

-- (0,3) is the sibling of (0,4), (3,1) that of (3,10)
abbrev pub sibling_pair : List ℕ → ℕ → ℕ → Bool
sibling_pair xs k i = either (both (is_pair 0 4 xs k) (is_pair 0 3 xs i)) (both (is_pair 3 10 xs k) (is_pair 3 1 xs i))

abbrev pub language_of : Kind → ℕ
language_of (Format4 language segments len) = language
language_of (Format12 language groups len) = language
language_of (Format14 selectors len) = 0
language_of Unreadable = 0

-- a readable format 4 or 12 of that language
abbrev pub speaks : ℕ → Kind → Bool
speaks l (Format4 language segments len) = eqb language l
speaks l (Format12 language groups len) = eqb language l
speaks l (Format14 selectors len) = false
speaks l Unreadable = false

-- record i has the sibling's pair, for which it is retained wherever it leads, and record k's language
unfoldable pub is_sibling : List ℕ → ℕ → ℕ → Bool
is_sibling xs k i = both (sibling_pair xs k i) (speaks (language_of (leads_to xs k)) (leads_to xs i))

unfoldable pub first_sibling : List ℕ → ℕ → ℕ
first_sibling xs k = first (is_sibling xs k) (record_count xs) 0
