use mathlib.Core.Path.{◌≡◌}
use lib.ListN.{length}
use Rattle.format14.specs.Lent.{lent_job14}
use Rattle.format14.specs.ByNumber.{Measures}
use Rattle.format14_places.proofs.measure.Given as goal

abbrev pub invariant-loop-t : goal.invariant-loop-t
invariant-loop-t l = Measures (lent_job14 l.job) l.t l.measures × (length l.flags ≡ length l.initial.flags)
