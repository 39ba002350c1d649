-- The tests are the definition's own, in its order.
use native.Mathlib.Omega.{arith}
use Rattle.laws.proofs.ChoiceLaws.{if_lt_lem, else_lt, if_le_lem, else_le}
use Rattle.format12_mapped.specs.Mapped12.{clip12}
use mathlib.Core.Path.{refl}
use Rattle.format12_mapped.proofs.clip.Goals as goal

pub returns-then-end-start : goal.returns-then-end-start
unfolding clip12
returns-then-end-start c = if_lt_lem _ _ _ _ (omega arith) refl

pub returns-then-n-glyph : goal.returns-then-n-glyph
unfolding clip12
returns-then-n-glyph c = else_lt _ _ _ _ (omega arith) (if_le_lem _ _ _ _ (omega arith) refl)

pub returns-then-glyph-end : goal.returns-then-glyph-end
unfolding clip12
returns-then-glyph-end c = else_lt _ _ _ _ (omega arith) (else_le _ _ _ _ (omega arith) (if_lt_lem _ _ _ _ (omega arith) refl))

pub returns-else-glyph-end : goal.returns-else-glyph-end
unfolding clip12
returns-else-glyph-end c = else_lt _ _ _ _ (omega arith) (else_le _ _ _ _ (omega arith) (else_lt _ _ _ _ (omega arith) (rw c.min-end.ensures)))
