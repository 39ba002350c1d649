use mathlib.Core.Path.{sym, ◌∙◌}
use native.Mathlib.Omega.{arith}
use borrow.Author.Tests.{eq-eqb, ne_eqb}
use Rattle.format4_cutting.specs.Steps.{step}
use Rattle.format4_cutting.proofs.StepsLaws.{cost_small, run_ends, range_ends}
use Rattle.format4_cutting.proofs.RangeState.absorb.Goals as goal
use Rattle.format4_cutting.proofs.RangeState.absorb.Goals.{then-c-self+else-g-self+then-run_pays, else-c-self}

pub returns-then-g-self : goal.returns-then-g-self
unfolding step
returns-then-g-self c = simp (c.if-self.true, eq-eqb _ _ c.if-c-self.true, eq-eqb _ _ c.if-g-self.true, c.grow.ensures)

pub run_pays-requires : goal.run_pays-requires
run_pays-requires c = simp c.cost-cost.ensures (cost_small c.args.self)

pub returns-else-run_pays : goal.returns-else-run_pays
unfolding step
returns-else-run_pays c = simp (c.if-self.true, eq-eqb _ _ c.if-c-self.true, ne_eqb _ _ c.if-g-self.false, c.turn.ensures, simp c.cost-cost.ensures at (sym c.run_pays.ensures ∙ c.if-run_pays.false))

pub commit_current_range-requires : goal.commit_current_range-requires
commit_current_range-requires c = elim c.if-c-self.branch [
  | then-c-self+else-g-self+then-run_pays w ↦ rw (w.cost-is ∙ w.cost-cost.ensures) (cost_small c.args.self)
  | else-c-self w ↦ rw w.cost-is (omega arith, omega arith)
]

pub returns-then-self : goal.returns-then-self
returns-then-self c = elim c.if-c-self.branch [
  | then-c-self+else-g-self+then-run_pays w ↦
      run_ends _ _ _ _ _ _ c.if-self.true c.commit_current_range.ensures _ _ w.if-c-self.true w.if-g-self.false w.cost-cost.ensures w.run_pays.ensures w.if-run_pays.true w.cost-is (w.next-is ∙ w.turn-next.ensures)
  | else-c-self w ↦ range_ends _ _ _ _ _ _ c.if-self.true c.commit_current_range.ensures w.if-c-self.false w.cost-is (w.next-is ∙ c.begin-next.ensures)
]

pub returns : goal.returns
unfolding step
returns c = search (c.if-self.false, c.begin.ensures)
