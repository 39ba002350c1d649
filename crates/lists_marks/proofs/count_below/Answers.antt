-- All of the list is left to halve.
use Rattle.lists_marks.proofs.BelowLaws.{halving_start}
use Rattle.lists_marks.proofs.count_below.Goals as goal

pub halve-requires-clause-halving : goal.halve-requires-clause-halving
halve-requires-clause-halving c = search halving_start
