-- The tests are the definition's own.
use native.Mathlib.Omega.{arith}
use Rattle.laws.proofs.ChoiceLaws.{if_lt_lem, else_lt}
use Rattle.format4_mapped.specs.Mapped4.{entry4}
use mathlib.Core.Path.{refl}
use Rattle.format4_segments.proofs.Format4.entry.Goals as goal

pub returns-then-place-t : goal.returns-then-place-t
unfolding entry4
returns-then-place-t c = if_lt_lem _ _ _ _ (omega arith) refl

pub returns-then-index-t : goal.returns-then-index-t
unfolding entry4
returns-then-index-t c = else_lt _ _ _ _ (omega arith) (if_lt_lem _ _ _ _ (omega arith) c.u16_at.ensures.is)

pub returns : goal.returns
unfolding entry4
returns c = else_lt _ _ _ _ (omega arith) (else_lt _ _ _ _ (omega arith) refl)
