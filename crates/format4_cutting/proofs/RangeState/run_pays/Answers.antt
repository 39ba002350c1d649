use Rattle.format4_cutting.specs.Steps.{pays}
use Prim.Native.Nat.{◌+◌, ◌*◌, ◌-◌}
use native.Mathlib.Omega.{arith}
use Rattle.laws.proofs.ChoiceLaws.{leb_same}
use Rattle.format4_cutting.proofs.RangeState.run_pays.Goals as goal

pub returns : goal.returns
unfolding pays
returns c = let a = c.args in leb_same (a.cost + 2 * a.self.run) (2 * (a.self.end + 1)) a.cost (2 * (a.self.end + 1 - a.self.run)) (λ h. omega arith) (λ h. omega arith)
