-- Whatever gives the numbers that are read, its rest stored from here gives the whole.
use Rattle.std.proofs.Common.{◌≡◌, ◌<◌, ℕ}
use Rattle.job_lists.proofs.FillingLaws.{Filling}
use Rattle.job_lists.proofs.fill.Given as goal

abbrev pub invariant-loop-i : goal.invariant-loop-i
invariant-loop-i g l =
    (f : ℕ → g.row.T.Denot) → ((i : ℕ) (r : g.row.T.Denot) → i < l.n → goal.F-post g l.read i r → r ≡ f i) → Filling f l.n l.initial.place-items l.place-items l.i
