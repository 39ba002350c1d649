-- When a format 12 record is covered by its sibling (docs/RULES.md, "Format 12").
use Rattle.std.specs.Prelude.{ℕ, List, Bool, not, ltb, leb}
use Rattle.laws.specs.Choice.{both}
use Rattle.laws.specs.Select.{select, any_of, eq_list}
use Rattle.source_header.specs.Header.{record_count}
use Rattle.source_records.specs.Records.{leads_to_format}
use Rattle.plan_listing.specs.Listing.{maps}
use Rattle.plan.specs.Sibling.{first_sibling}

-- ---- the kept points it maps

-- in a source xs of n glyphs: a kept point at or above 0x10000 that the subtable of record k maps
unfoldable pub reaches_above : List ℕ → ℕ → List ℕ → ℕ → Bool
reaches_above xs n kept k = any_of (λ c. both (maps xs n k c) (leb 0x10000 c)) kept

-- the subtables of records k and i map the same kept points
unfoldable pub map_alike : List ℕ → ℕ → List ℕ → ℕ → ℕ → Bool
map_alike xs n kept k i = eq_list (select (maps xs n k) kept) (select (maps xs n i) kept)

-- ---- covered

-- there is a sibling, all kept points that the subtable maps lie below 0x10000, and the first sibling maps the same kept points
unfoldable pub sibling_covers : List ℕ → ℕ → List ℕ → ℕ → Bool
sibling_covers xs n kept k =
    let i = first_sibling xs k in
    both (ltb i (record_count xs)) (both (not (reaches_above xs n kept k)) (map_alike xs n kept k i))

unfoldable pub covered : List ℕ → ℕ → List ℕ → ℕ → Bool
covered xs n kept k = both (leads_to_format 12 xs k) (sibling_covers xs n kept k)
