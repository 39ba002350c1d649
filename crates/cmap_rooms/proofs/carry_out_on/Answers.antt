use borrow.Author.Rules.{rules}
use Rattle.plan_listing.specs.Lent.{lent_job}
use Rattle.plan.proofs.RecordNotesLaws.{fronting}
use Rattle.cmap_concluding.proofs.AnswerLaws.{answer_told}
use Rattle.cmap_rooms.proofs.CarryingLaws.{lent_is, is_planned, is_settled, to_write}
use Rattle.cmap_rooms.proofs.carry_out_on.Goals as goal

pub plan-requires-clause-fronted : goal.plan-requires-clause-fronted
plan-requires-clause-fronted c = search fronting

pub answer_by-answer-requires : goal.answer_by-answer-requires
answer_by-answer-requires c = let p = c.requires in
    let e = c.plan.ensures in
    rw (lent_is (lent_job c.args.job.now) c.plan.new.notes _ c.record_count.ensures) (is_settled _ _ p.passing e.planned.0 e.planned.1 e.fronted_after)

pub write_result-requires-clause-writes : goal.write_result-requires-clause-writes
write_result-requires-clause-writes c = let p = c.requires in
    let e = c.plan.ensures in
    to_write _ _ p.passing e.planned.0 e.planned.1 e.fronted_after _ _ _ _ _ _ _ p.prepared e.endings (search rules) (search rules) (search rules)

pub write_result-requires-clause-answered : goal.write_result-requires-clause-answered
write_result-requires-clause-answered c = rw (lent_is (lent_job c.args.job.now) c.plan.new.notes _ c.record_count.ensures) at c.answer_by-answer.ensures

pub returns-clause-value : goal.returns-clause-value
returns-clause-value c = let p = c.requires in
    let e = c.plan.ensures in
    answer_told _ _ (is_planned _ _ p.passing e.planned.0 e.planned.1 e.fronted_after) _ _
    (rw (lent_is (lent_job c.args.job.now) c.plan.new.notes _ c.record_count.ensures) at c.answer_by-answer.ensures)
