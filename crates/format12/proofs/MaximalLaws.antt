-- The groups are as docs/RULES.md says: rows of neighbours that all go on, none of which could go on with the next.
use mathlib.Core.Path.{◌≡◌, sym, ap, ◌∙◌}
use mathlib.Core.List.{List, map}
use Rattle.laws.specs.Lists.{Pair}
use Rattle.laws.specs.Pieces.{pieces, concat}
use Rattle.laws.proofs.PiecesLaws.{concat-pieces}
use Rattle.laws.proofs.PartedLaws.{Parted, pieces_parted, parted_pieces}
use Rattle.format12.specs.Format12.{consecutive, group_of, grouped, groups}

-- joined the rows give the pairs; in a row code point and glyph both rise by one, and from the last of one row to the first of the next they do not
pub record Maximal (ps : List Pair) (rows : List (List Pair)) : Type 0 where
  pub whole : concat rows ≡ ps
  pub parted : Parted consecutive rows

pub groups_maximal : (ps : List Pair) → Maximal ps (pieces consecutive ps)
groups_maximal ps = record { whole = concat-pieces consecutive ps; parted = pieces_parted consecutive ps }

-- no other rows are so
pub maximal_groups : (ps : List Pair) (rows : List (List Pair)) → Maximal ps rows → groups ps ≡ map group_of rows
unfolding grouped
maximal_groups ps rows m = ap (map group_of) (ap (pieces consecutive) (sym m.whole) ∙ parted_pieces consecutive m.parted)
