-- The stretch from the start to as many points behind it as the byte says.
use Rattle.format14.proofs.CoverLaws.{mark_is}
use Rattle.format14_default.proofs.mark_range.Goals as goal

pub returns-in-None : goal.returns-in-None
returns-in-None c = mark_is _ _ _ _ _ _ _ c.u24_at-start.ensures c.byte_at.ensures c.mark_points_near.ensures.flags_after

pub returns-in-Some : goal.returns-in-Some
returns-in-Some c = mark_is _ _ _ _ _ _ _ c.u24_at-start.ensures c.byte_at.ensures c.mark_points_by.ensures
