-- The selector records of the source's format 14 subtable, which of them are kept, and their new tables (docs/RULES.md, "Format 14").
use Rattle.std.specs.Prelude.{ℕ, ◌+◌, List, [], ◌∷◌, Bool, true, false}
use Rattle.laws.specs.Choice.{pick, both}
use Rattle.laws.specs.Select.{each, select, any_of}
use Rattle.lists_marks.specs.Marks.{holds}
use Rattle.number.specs.BigEndian.{be}
use Rattle.source.specs.Fields.{var_selector, default_uvs_offset, non_default_uvs_offset}
use Rattle.format14_uvs.specs.Tables.{counts_default, counts_non_default}
use Rattle.format14_uvs.specs.Default.{new_default}
use Rattle.format14_uvs.specs.NonDefault.{new_non_default, bad_mapping}

-- what a subtable is worked out from: the source, the subtable's start and length in it, and the lists that are lent
pub record Job14 : Type 0 where
  pub source : List ℕ
  pub start : ℕ
  pub size : ℕ
  pub kept : List ℕ
  pub glyphs : List ℕ
  pub requested : List ℕ

abbrev pub job14 : List ℕ → ℕ → ℕ → List ℕ → List ℕ → List ℕ → Job14
job14 xs at len kept map requested = record { source = xs; start = at; size = len; kept = kept; glyphs = map; requested = requested }

-- ---- selector record k of the source

abbrev pub selector_records : Job14 → ℕ
selector_records g = be 4 g.source (g.start + 6)

abbrev pub selector_of : Job14 → ℕ → ℕ
selector_of g k = var_selector g.source g.start k

abbrev pub default_offset : Job14 → ℕ → ℕ
default_offset g k = default_uvs_offset g.source g.start k

abbrev pub non_default_offset : Job14 → ℕ → ℕ
non_default_offset g k = non_default_uvs_offset g.source g.start k

unfoldable pub keeps_selector : Job14 → ℕ → Bool
keeps_selector g k = holds g.kept (selector_of g k)

-- the numbers of the records whose selector is kept, in order, of n records from k on
abbrev pub kept_records : Job14 → ℕ → ℕ → List ℕ
kept_records g n k = select (keeps_selector g) (each (λ i. i) n k)

-- ---- its new tables; a table that does not count gives no new one, which the empty list stands for

unfoldable pub default_table : Job14 → ℕ → List ℕ
default_table g k =
    pick (counts_default g.source g.start g.size (default_offset g k))
    (new_default g.source (g.start + default_offset g k) g.kept) []

unfoldable pub non_default_table : Job14 → ℕ → List ℕ
non_default_table g k =
    pick (counts_non_default g.source g.start g.size (non_default_offset g k))
    (new_non_default g.source (g.start + non_default_offset g k) g.kept g.glyphs g.requested) []

-- whether a table is there
abbrev pub there : List ℕ → Bool
there [] = false
there (b ∷ bs) = true

-- the table alone, or nothing for a missing one
abbrev pub one : List ℕ → List (List ℕ)
one t = pick (there t) (t ∷ []) []

-- ---- refusal 8

-- refusal 8 for record k: its non-default table counts and has a mapping to be kept that names a missing glyph
unfoldable pub bad_record : Job14 → ℕ → Bool
bad_record g k =
    both (counts_non_default g.source g.start g.size (non_default_offset g k))
    (bad_mapping g.source (g.start + non_default_offset g k) g.kept g.glyphs g.requested)

abbrev pub bad_kept_record : Job14 → ℕ → Bool
bad_kept_record g k = both (keeps_selector g k) (bad_record g k)

-- refusal 8: a kept selector record has a mapping to be kept that names a missing glyph
abbrev pub names_missing : Job14 → Bool
names_missing g = any_of (bad_record g) (kept_records g (selector_records g) 0)
