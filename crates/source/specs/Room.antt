-- Inner: what a function over a readable subtable asks for; no promise names it. A format 4's parts lie inside its length, and that inside the source; a format 12's
-- groups lie inside the source.
use Rattle.std.specs.Prelude.{ℕ, ◌+◌, ◌*◌, ◌≤◌, ◌<◌, List, length}
use Rattle.source.specs.declared.Segments.{Segments}

pub record Room4 (xs : List ℕ) (t : Segments) : Type 0 where
  pub room : 16 + 8 * t.segs ≤ t.len
  pub fits : t.at + t.len ≤ length xs
  pub small : t.len < 65536

pub record Room12 (xs : List ℕ) (at groups : ℕ) : Type 0 where
  pub fits : at + 16 + 12 * groups ≤ length xs
