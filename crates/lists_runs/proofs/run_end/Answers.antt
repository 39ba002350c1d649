use Rattle.std.proofs.Common.{rules, arith}
use Rattle.lists_runs.specs.Runs.{run_end}
use Rattle.lists_runs.proofs.run_end.Goals as goal

pub returns : goal.returns
unfolding run_end
returns c = record { is = search rules; behind = omega arith; within = omega arith }
