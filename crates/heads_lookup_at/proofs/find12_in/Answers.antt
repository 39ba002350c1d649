-- The code makes the tests of the definition, in its order.
use mathlib.Core.Path.{refl}
use native.Mathlib.Omega.{arith}
use Rattle.laws.proofs.ChoiceLaws.{if_lt_lem, else_lt}
use Rattle.heads_lookup.specs.Lookup.{find12}
use Rattle.heads_lookup_at.proofs.find12_in.Goals as goal

pub returns-then-i-groups : goal.returns-then-i-groups
unfolding find12
returns-then-i-groups c = if_lt_lem _ _ _ _ (omega arith) (cc)

pub returns : goal.returns
unfolding find12
returns c = else_lt _ _ _ _ (omega arith) refl
