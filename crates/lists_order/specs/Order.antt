-- Order and limits of a list of numbers: whether it falls, exceeds or reaches a bound, or lacks a number of another.
use Rattle.std.specs.Prelude.{ℕ, ◌+◌, ◌-◌, List, Bool, not, ltb, leb, length, get_or}
use Rattle.laws.specs.Search.{some}
use Rattle.laws.specs.Select.{any_of}
use Rattle.lists_marks.specs.Marks.{holds}

abbrev pub not_below_next : List ℕ → ℕ → Bool
not_below_next xs i = leb (get_or xs (i + 1) 0) (get_or xs i 0)

-- some number is not below the next
unfoldable pub falls : List ℕ → Bool
falls xs = some (not_below_next xs) (length xs - 1) 0

-- some number is above m
unfoldable pub exceeds : ℕ → List ℕ → Bool
exceeds m xs = any_of (ltb m) xs

-- some number of codes is not kept
unfoldable pub lacks : List ℕ → List ℕ → Bool
lacks kept codes = any_of (λ c. not (holds kept c)) codes

-- some number is not below n
unfoldable pub reaches_count : ℕ → List ℕ → Bool
reaches_count n requested = any_of (leb n) requested
