use Rattle.format4_cutting.proofs.RangeState.turn.Goals as goal

pub returns : goal.returns
returns c = simp c.delta_of.ensures
