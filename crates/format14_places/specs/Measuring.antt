-- Inner: what the functions of this crate hand to each other; no promise names it.
use Rattle.std.specs.Prelude.{ℕ, ◌%◌, ◌<◌, ◌≡◌, List, false, get_or}
use Rattle.format14_sharing.specs.declared.Measure.{Measure}

-- m was found of a table before t of its sort, whose source stands at `off`
pub record EarlierTable (ms : List Measure) (t off : ℕ) (m : Measure) : Type 0 where
  pub number : ℕ
  pub before : number < t
  pub sort : number % 2 ≡ t % 2
  pub is : m ≡ get_or ms number m
  pub place : m.source ≡ off

-- what is read behind the last
abbrev pub none : Measure
none = record { size = 0; sum = 0; bad = false; source = 0 }
