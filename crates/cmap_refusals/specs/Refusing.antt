-- Inner: parts of the order of refusals, one for each function; no promise names it.
use Rattle.std.specs.Prelude.{ℕ, List, [], ◌∷◌}
use Rattle.source_records.specs.Records.{refused6, refused7}
use Rattle.plan_listing.specs.Job.{Job}
use Rattle.result.specs.Refusal.{first_of, list_refusals, source_refusals}

-- 1 to 4
unfoldable pub list_refusal : Job → ℕ
list_refusal j = first_of (list_refusals j)

-- 5 to 7
unfoldable pub source_refusal : List ℕ → ℕ
source_refusal xs = first_of (source_refusals xs)

-- 6 and 7
unfoldable pub format_refusal : List ℕ → ℕ
format_refusal xs = first_of ((6, refused6 xs) ∷ (7, refused7 xs) ∷ [])
