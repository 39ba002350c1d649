use Rattle.format4_collect.specs.Walks.{Settled}
use Rattle.format4_collect.proofs.settle.Given as goal

abbrev pub invariant-loop-j : goal.invariant-loop-j
invariant-loop-j l = Settled l.j l.initial.flags l.flags
