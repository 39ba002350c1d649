-- The code makes the tests of the definition, in its order.
use mathlib.Core.Path.{refl}
use native.Mathlib.Omega.{arith}
use Rattle.laws.proofs.ChoiceLaws.{if_lt_lem, else_lt}
use Rattle.heads_lookup.specs.Lookup.{find4}
use Rattle.heads_lookup_at.proofs.find4_in.Goals as goal

pub returns-then-c-gt65535 : goal.returns-then-c-gt65535
unfolding find4
returns-then-c-gt65535 c = if_lt_lem _ _ _ _ (omega arith) refl

pub returns-then-i-t : goal.returns-then-i-t
unfolding find4
returns-then-i-t c = else_lt _ _ _ _ (omega arith) (if_lt_lem _ _ _ _ (omega arith) (cc))

pub returns : goal.returns
unfolding find4
returns c = else_lt _ _ _ _ (omega arith) (else_lt _ _ _ _ (omega arith) refl)
