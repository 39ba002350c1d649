-- The tables are measured and placed, and the selector records that have one counted; these tell the outcome.
use Rattle.format14.proofs.WholeLaws.{outcome_is, outcome_short}
use borrow.Author.Rules.{rules}
use Rattle.format14_writer.proofs.size.Goals as goal

pub returns-clause-laid_out : goal.returns-clause-laid_out
returns-clause-laid_out c = (search outcome_is, search rules)

pub returns-clause-result_bound : goal.returns-clause-result_bound
returns-clause-result_bound c = search outcome_short
