-- Inner: where tables stand and how long a result is, by the lengths that a plan holds; no promise names it.
use Rattle.std.specs.Prelude.{ℕ, zero, suc, ◌+◌, ◌-◌, List, length}
use Rattle.plan.specs.declared.Outcome.{Outcome}
use Rattle.plan.specs.Outcomes.{at}
use Rattle.plan.specs.Sizes.{made_size}
use Rattle.result.specs.Result.{tables_start}

-- how long the tables of the n records from k on are together
unfoldable pub sizes_from : List Outcome → ℕ → ℕ → ℕ
sizes_from os zero k = 0
sizes_from os (suc n) k = made_size (at os k) + sizes_from os n (k + 1)

unfoldable pub place_by_sizes : List Outcome → ℕ → ℕ
place_by_sizes os k = tables_start os + sizes_from os (length os - (k + 1)) (k + 1)

abbrev pub result_length : List Outcome → ℕ
result_length os = tables_start os + sizes_from os (length os) 0
