-- A segment of delta 0 has an entry for each of its code points, any other none.
use borrow.Author.Tests.{eq-eqb, ne_eqb}
use native.Mathlib.Omega.{arith}
use Rattle.format4.proofs.entries_of.Goals as goal

pub returns-then-x-eq0 : goal.returns-then-x-eq0
returns-then-x-eq0 c = let e = c.points_of.ensures in (simp (eq-eqb _ _ c.if-x-eq0.true) e.0, e.1)

pub returns : goal.returns
returns c = (simp (ne_eqb _ _ c.if-x-eq0.false), omega arith)
