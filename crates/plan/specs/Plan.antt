-- What becomes of each record, and what refusals 8 and 9 ask of it (docs/RULES.md, "Records" and "Numbers of refusal").
-- What an outcome says, and which earlier table serves a record: Outcomes.antt. The table a record makes, and what becomes of one that no
-- earlier table serves: Fresh.antt.
use Rattle.std.specs.Prelude.{ℕ, zero, suc, List, [], ◌∷◌, ◌++◌, Bool, not, ltb}
use Rattle.laws.specs.Choice.{pick, both, either}
use Rattle.laws.specs.Search.{some}
use Rattle.laws.specs.Select.{any_of}
use Rattle.source_header.specs.Header.{record_count}
use Rattle.source_records.specs.Records.{leads_to_format, retained}
use Rattle.plan_listing.specs.Job.{Job, glyph_count}
use Rattle.plan.specs.Covered.{covered}
use Rattle.plan.specs.declared.Outcome.{Outcome}
use Rattle.plan.specs.declared.Why.TheVariants.{NotRetained, Covered}
use Rattle.plan.specs.declared.Outcome.TheVariants.{LeftOut, Served}
use Rattle.plan.specs.Outcomes.{at, is_made, is_bad, server}
use Rattle.plan.specs.Fresh.{fresh}

-- ---- the walk in source order

-- a retained record k, where os holds what became of those before it; "covered" is asked before what serves it
unfoldable pub retained_outcome : Job → List Outcome → ℕ → Outcome
retained_outcome j os k =
    let r = server j.source os k in
    pick (covered j.source (glyph_count j) j.kept k) (LeftOut Covered) (pick (ltb r k) (Served r) (fresh j k))

unfoldable pub outcome_of : Job → List Outcome → ℕ → Outcome
outcome_of j os k = pick (retained j.source k) (retained_outcome j os k) (LeftOut NotRetained)

-- what becomes of the first k records, one after the other
unfoldable pub outcomes : Job → ℕ → List Outcome
outcomes j zero = []
outcomes j (suc k) = let os = outcomes j k in os ++ (outcome_of j os k ∷ [])

unfoldable pub plan : Job → List Outcome
plan j = outcomes j (record_count j.source)

-- ---- refusals 8 and 9

-- a variation mapping to be kept names a missing glyph
unfoldable pub refused8 : List Outcome → Bool
refused8 os = any_of is_bad os

-- record k made a format 4 or 12 table
abbrev pub made_plain : List ℕ → List Outcome → ℕ → Bool
made_plain xs os k = both (is_made (at os k)) (either (leads_to_format 4 xs k) (leads_to_format 12 xs k))

-- none did
unfoldable pub refused9 : List ℕ → List Outcome → Bool
refused9 xs os = not (some (made_plain xs os) (record_count xs) 0)
