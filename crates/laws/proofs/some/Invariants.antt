use Rattle.std.proofs.Common.{ℕ, Bool}
use Rattle.laws.specs.Search.{AnswersAs}
use Rattle.laws.proofs.SearchLaws.{Asking}
use Rattle.laws.proofs.some.Given as goal

abbrev pub invariant-loop-i : goal.invariant-loop-i
invariant-loop-i g l = (p : ℕ → Bool) → AnswersAs p l.n (goal.F-post g l.passes) → Asking p l.n l.i
