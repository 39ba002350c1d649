use Rattle.plan_listing.specs.Lent.{lent_job}
use Rattle.plan.proofs.RecordNotesLaws.{fronting}
use Rattle.cmap_rooms.proofs.CarryingLaws.{lent_is, is_settled, is_found, fate_told}
use Rattle.cmap_rooms.proofs.tell_on.Goals as goal

pub plan-requires-clause-fronted : goal.plan-requires-clause-fronted
plan-requires-clause-fronted c = search fronting

pub fate_by-requires-clause-concludes : goal.fate_by-requires-clause-concludes
fate_by-requires-clause-concludes c = let e = c.plan.ensures in
    rw (lent_is (lent_job c.args.job.now) c.plan.new.notes _ c.record_count.ensures) (is_settled _ _ c.requires.passing e.planned.0 e.planned.1 e.fronted_after)

pub fate_by-requires-clause-servers_there : goal.fate_by-requires-clause-servers_there
fate_by-requires-clause-servers_there c = let e = c.plan.ensures in
    rw (lent_is (lent_job c.args.job.now) c.plan.new.notes _ c.record_count.ensures) (is_found _ _ c.requires.passing e.planned.0 e.planned.1 e.fronted_after)

pub returns : goal.returns
returns c = let e = c.plan.ensures in
    fate_told _ _ c.requires.passing e.planned.0 e.planned.1 e.fronted_after _ _
    (rw (lent_is (lent_job c.args.job.now) c.plan.new.notes _ c.record_count.ensures) at c.fate_by.ensures)
