use native.Mathlib.Omega.{arith}
use Rattle.plan_walk.proofs.of_outcome14.Goals as goal

pub returns-in-Empty : goal.returns-in-Empty
returns-in-Empty c = (rw c.in-Empty.is, record { below = omega arith })

pub returns-in-Length : goal.returns-in-Length
returns-in-Length c = let e = c.in-Length.is in
    (rw e, record { below = rw e at c.requires })
