use Rattle.plan.proofs.SizesLaws.{outcome_14}
use borrow.Author.Rules.{rules}
use Rattle.plan_walk.proofs.fresh14.Goals as goal

pub returns-clause-value : goal.returns-clause-value
returns-clause-value c =
    (outcome_14 _ _ _ (rw c.offset_of.ensures at c.size.ensures.laid_out.0) c.of_outcome14.ensures.0, search rules)
