-- The first record that leads to format 4 answers; there is none where the search ends at n.
use mathlib.Core.Path.{refl}
use native.Mathlib.Omega.{arith}
use Rattle.laws.proofs.ChoiceLaws.{if_lt_lem, else_lt}
use Rattle.heads.specs.Heads.{old_of}
use Rattle.heads_print.proofs.old_of.Goals as goal

pub returns-then-k-n : goal.returns-then-k-n
unfolding old_of
returns-then-k-n c = if_lt_lem _ _ _ _ (omega arith) (cc)

pub returns : goal.returns
unfolding old_of
returns c = else_lt _ _ _ _ (omega arith) refl
