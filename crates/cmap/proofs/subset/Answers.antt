use Rattle.cmap_concluding.proofs.AnswerLaws.{early_answer, early_output}
use Rattle.cmap.proofs.subset.Goals as goal

pub returns-in-Err-clause-value : goal.returns-in-Err-clause-value
returns-in-Err-clause-value c =
    rw c.into.ensures (early_answer _ c.early_refusal.result c.early_refusal.ensures _ c.in-Err.is _)

pub returns-in-Err-clause-out_after : goal.returns-in-Err-clause-out_after
returns-in-Err-clause-out_after c = early_output _ c.early_refusal.result c.early_refusal.ensures _ c.in-Err.is _
