-- The answer by the plan tells whether the result is written, and with how many records.
use Rattle.cmap_concluding.proofs.AnswerLaws.{outputs, accepted_counts, accepted_fits, unwritten_keeps}
use Rattle.cmap_rooms.proofs.CarryingLaws.{writing, writes_plan}
use Rattle.cmap_rooms.proofs.write_result.Goals as goal

pub serialize_cmap-requires : goal.serialize_cmap-requires
serialize_cmap-requires c = let r = c.requires in
    let e = c.in-Ok.is in
    record {
      writes_plan = writes_plan _ _ _ _ _ _ r.writes (accepted_counts _ _ r.writes.planned c.args.out.now _ r.answered _ e);
      room = accepted_fits _ _ r.writes.planned c.args.out.now _ r.answered _ e;
    }

pub returns-in-Ok : goal.returns-in-Ok
returns-in-Ok c = search (writing, outputs)

pub returns-in_default : goal.returns-in_default
returns-in_default c = let r = c.requires in unwritten_keeps _ _ r.writes.planned _ _ r.answered c.in_default.not-Ok
