-- Which distance a table is given.
use Prim.Native.Nat.{ℕ, ◌+◌, ◌<◌, ◌≤◌}
use mathlib.Core.Path.{◌≡◌, refl, ap}
use mathlib.Core.List.{List}
use lib.ListN.{get_or, set}
use Rattle.laws.specs.Choice.{if_lt}
use Rattle.laws.proofs.ChoiceLaws.{if_lt_lem, else_lt}

module _ (ends : List ℕ) (m k j tail size : ℕ) where
  pub shares : j < m → set ends k (get_or ends j 0) ≡ set ends k (if_lt j m (get_or ends j 0) (tail + size))
  shares h = ap (set ends k) (if_lt_lem j m (get_or ends j 0) (tail + size) h refl)

  pub stands_before : m ≤ j → set ends k (tail + size) ≡ set ends k (if_lt j m (get_or ends j 0) (tail + size))
  stands_before h = ap (set ends k) (else_lt j m (get_or ends j 0) (tail + size) h refl)

pub ruleset distances = (shares, stands_before)
