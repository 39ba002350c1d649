-- Inner: how many of a list of numbers are below every 128th number; no promise names it.
use Rattle.std.specs.Prelude.{ℕ, ◌*◌, ◌%◌, ◌^◌, List}
use Rattle.laws.specs.Select.{each}
use Rattle.lists_marks.specs.Marks.{below}

-- below 128 times b, as a number of four bytes
unfoldable pub place_of : List ℕ → ℕ → ℕ
place_of ps b = below ps (128 * b) % 256 ^ 4

-- below the first n multiples of 128
unfoldable pub places_of : List ℕ → ℕ → List ℕ
places_of ps n = each (place_of ps) n 0
