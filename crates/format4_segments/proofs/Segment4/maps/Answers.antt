-- The range offset chooses between the delta and the array, as in the definition.
use native.Mathlib.Omega.{arith}
use Rattle.laws.proofs.ChoiceLaws.{if_eq_lem, else_eq}
use Rattle.format4_mapped.specs.Mapped4.{says4}
use mathlib.Core.Path.{refl, ap}
use lib.Dec.{ltb}
use borrow.Author.Rules.{rules}
use Rattle.format4_segments.proofs.Segment4.maps.Goals as goal

pub returns-then-read-eq0 : goal.returns-then-read-eq0
unfolding says4
returns-then-read-eq0 c = if_eq_lem _ _ _ _ (omega arith) refl

pub returns : goal.returns
unfolding says4
returns c = else_eq _ _ _ _ (search rules) (ap (ltb 0) c.entry.ensures)
