use Rattle.std.proofs.Common.{ℕ, Bool}
use Rattle.laws.specs.Search.{AnswersFrom}
use Rattle.laws.proofs.SearchLaws.{Seeking}
use Rattle.laws.proofs.first_from.Given as goal

abbrev pub invariant-loop-i : goal.invariant-loop-i
invariant-loop-i g l = (p : ℕ → Bool) → AnswersFrom p l.low l.n (goal.F-post g l.passes) → Seeking p l.n l.low l.i
