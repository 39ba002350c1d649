-- Inner: what the functions that plan hand to each other; no promise names it. Earlier records that tell what becomes of a record.
use Rattle.std.specs.Prelude.{ℕ, List, Bool, true, false, eqb}
use Rattle.laws.specs.Choice.{both}
use Rattle.laws.specs.Search.{first}
use Rattle.source_header.specs.Header.{platform_of, encoding_of, offset_of}
use Rattle.source_records.specs.Records.{is_pair}
use Rattle.plan.specs.declared.Outcome.{Outcome}
use Rattle.plan.specs.declared.Why.{Why}
use Rattle.plan.specs.declared.Why.TheVariants.{NotRetained, Skipped, Empty, TooLong, Covered}
use Rattle.plan.specs.declared.Outcome.TheVariants.{LeftOut, BadMapping, Served, Made}
use Rattle.plan.specs.Outcomes.{at}

-- ---- the same pair and offset

unfoldable pub is_twin : List ℕ → ℕ → ℕ → Bool
is_twin xs k r = both (is_pair (platform_of xs k) (encoding_of xs k) xs r) (eqb (offset_of xs r) (offset_of xs k))

-- the first such record before k; k where there is none
unfoldable pub twin : List ℕ → ℕ → ℕ
twin xs k = first (is_twin xs k) k 0

abbrev pub says_covered : Why → Bool
says_covered NotRetained = false
says_covered Skipped = false
says_covered Empty = false
says_covered TooLong = false
says_covered Covered = true

abbrev pub is_covered : Outcome → Bool
is_covered (LeftOut why) = says_covered why
is_covered BadMapping = false
is_covered (Served by) = false
is_covered (Made size) = false

-- ---- the same subtable, which came to nothing

abbrev pub says_nothing : Why → Bool
says_nothing NotRetained = false
says_nothing Skipped = true
says_nothing Empty = true
says_nothing TooLong = true
says_nothing Covered = false

abbrev pub came_to_nothing : Outcome → Bool
came_to_nothing (LeftOut why) = says_nothing why
came_to_nothing BadMapping = true
came_to_nothing (Served by) = false
came_to_nothing (Made size) = false

unfoldable pub is_spent : List ℕ → List Outcome → ℕ → ℕ → Bool
is_spent xs os k r = both (came_to_nothing (at os r)) (eqb (offset_of xs r) (offset_of xs k))

-- the first such record before k; k where there is none
unfoldable pub spent : List ℕ → List Outcome → ℕ → ℕ
spent xs os k = first (is_spent xs os k) k 0
