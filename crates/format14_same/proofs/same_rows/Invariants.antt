use Rattle.format14_same.proofs.RowLaws.{Pairing}
use Prim.Native.Nat.{◌-◌}
use Rattle.format14_same.proofs.same_rows.Given as goal

abbrev pub invariant-loop-one : goal.invariant-loop-one
invariant-loop-one l = Pairing l.s l.kept l.map l.requested l.p l.m l.q l.n l.one.mapping l.other.mapping

abbrev pub decreases-loop-one : goal.decreases-loop-one
decreases-loop-one l = l.m - l.one.mapping
