use Rattle.format4_cutting.specs.Steps.{finish}
use Rattle.format4_cutting.proofs.RangeState.finish.Goals as goal

pub returns-then-self : goal.returns-then-self
unfolding finish
returns-then-self c = simp (c.if-self.true, c.commit_current_range.ensures)

pub returns : goal.returns
unfolding finish
returns c = simp c.if-self.false
