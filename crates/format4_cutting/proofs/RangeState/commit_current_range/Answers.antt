use Rattle.laws.proofs.ChoiceLaws.{tests}
use Rattle.format4_cutting.specs.Steps.{commit}
use mathlib.Core.Path.{sym, ◌∙◌}
use Rattle.format4_cutting.proofs.RangeState.commit_current_range.Goals as goal
use Rattle.format4_cutting.proofs.RangeState.commit_current_range.Goals.{else-self-2-via-then-self-2+then-self-3+else-run_pays, else-self-2-via-then-self-2+else-self-3, else-self-2-via-else-self-2}

pub returns-then-self : goal.returns-then-self
unfolding commit
returns-then-self c = search tests

pub returns-then-run_pays : goal.returns-then-run_pays
unfolding commit
returns-then-run_pays c = rw c.earlier_delta.ensures (search (tests, sym c.run_pays.ensures ∙ c.if-run_pays.true))

pub returns : goal.returns
unfolding commit
returns c = elim c.else-self-2.branch [
  | else-self-2-via-then-self-2+then-self-3+else-run_pays w ↦ search (tests, sym w.run_pays.ensures ∙ w.if-run_pays.false)
  | else-self-2-via-then-self-2+else-self-3 w ↦ search tests
  | else-self-2-via-else-self-2 w ↦ search tests
]
