-- Inner: for laws alone, what a format 14 subtable, at `at` and of `len` bytes, gives a code point with a variation selector: the glyphs of the mappings that the non-default tables
-- of the selector's records have for it, in the order of records and mappings; and whether their default tables cover it.
use Rattle.std.specs.Prelude.{ℕ, ◌+◌, List, [], Bool, eqb}
use Rattle.laws.specs.Choice.{pick, both}
use Rattle.laws.specs.Lists.{Pair}
use Rattle.laws.specs.Select.{each, select, any_of, flat}
use Rattle.number.specs.BigEndian.{be}
use Rattle.source.specs.Fields.{var_selector, default_uvs_offset, non_default_uvs_offset}
use Rattle.format14_uvs.specs.Tables.{counts_default, counts_non_default}
use Rattle.format14_uvs.specs.Default.{covered_by}
use Rattle.format14_uvs.specs.NonDefault.{mappings}
use Rattle.format14.specs.Gives.{glyphs_for}

-- the mappings of record k's non-default table, none if it does not count
unfoldable pub record_mappings : List ℕ → ℕ → ℕ → ℕ → List Pair
record_mappings xs at len k =
    let off = non_default_uvs_offset xs at k in
    pick (counts_non_default xs at len off) (mappings xs (at + off)) []

abbrev pub variants : List ℕ → ℕ → ℕ → ℕ → ℕ → List ℕ
variants xs at len v c = flat (λ k. glyphs_for (record_mappings xs at len k) c) (select (λ k. eqb (var_selector xs at k) v) (each (λ k. k) (be 4 xs (at + 6)) 0))

-- ---- default tables

-- whether record k's default table counts and covers c
unfoldable pub record_covers : List ℕ → ℕ → ℕ → ℕ → ℕ → Bool
record_covers xs at len c k =
    let off = default_uvs_offset xs at k in
    both (counts_default xs at len off) (covered_by xs (at + off) c)

-- whether one of the selector's records covers c
abbrev pub defaults : List ℕ → ℕ → ℕ → ℕ → ℕ → Bool
defaults xs at len v c = any_of (record_covers xs at len c) (select (λ k. eqb (var_selector xs at k) v) (each (λ k. k) (be 4 xs (at + 6)) 0))
