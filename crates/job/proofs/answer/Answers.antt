-- Damaged bytes are told as 12; else the arrays hold the job's lists, and the call's answer is told.
use Rattle.job_output.proofs.AnsweredLaws.{answer_damaged, answer_at}
use Rattle.job_lists.proofs.LentLaws.{lent}
use native.Mathlib.Omega.{arith}
use mathlib.Core.Path.{refl, sym}
use Rattle.job.proofs.answer.Goals as goal

pub returns-in_default : goal.returns-in_default
returns-in_default c =
    let told = answer_damaged _ c.args.out.now _ _ c.in_default.ensures.value refl c.damaged_reply.ensures in
    record { value = told.0; out_after = told.1.0; written = told.1.1.0; parts = told.1.1.1 }

pub subset_at-requires : goal.subset_at-requires
subset_at-requires c =
    lent _ _ (sym c.in-Some.ensures.value) _ _ (omega arith) (omega arith) (omega arith) (omega arith) (omega arith) c.take_apart.ensures.lists_after

pub returns : goal.returns
returns c =
    let told = answer_at _ _ _ _ c.in-Some.ensures.value _ _ _ refl c.subset_at.ensures.value (omega arith) c.subset_at.ensures.out_after c.reply_of.ensures in
    record { value = told.0; out_after = told.1.0; written = told.1.1.0; parts = told.1.1.1 }
