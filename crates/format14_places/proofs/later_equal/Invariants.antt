use Prim.Native.Nat.{◌+◌}
use mathlib.Core.Path.{◌≡◌}
use lib.ListN.{length}
use Rattle.laws.specs.Select.{eq_list}
use Rattle.laws.proofs.SearchLaws.{Seeking}
use Rattle.format14.specs.Lent.{lent_job14}
use Rattle.format14.specs.ByNumber.{slot}
use Rattle.format14_places.proofs.later_equal.Given as goal

abbrev pub invariant-loop-j : goal.invariant-loop-j
invariant-loop-j l = let f = slot (lent_job14 l.job) in
    Seeking (λ i. eq_list (f l.t) (f i)) l.m (l.t + 1) l.j × ((length l.flags ≡ length l.initial.flags) × (length l.others ≡ length l.initial.others))
