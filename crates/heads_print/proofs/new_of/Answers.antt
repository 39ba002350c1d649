-- The first record that leads to format 12 answers; where the search ends at n, the old head does.
use native.Mathlib.Omega.{arith}
use Rattle.laws.proofs.ChoiceLaws.{if_lt_lem, else_lt}
use Rattle.heads.specs.Heads.{new_of}
use Rattle.heads_print.proofs.new_of.Goals as goal

pub returns-then-k-n : goal.returns-then-k-n
unfolding new_of
returns-then-k-n c = if_lt_lem _ _ _ _ (omega arith) (cc)

pub returns : goal.returns
unfolding new_of
returns c = else_lt _ _ _ _ (omega arith) c.old_of.ensures
