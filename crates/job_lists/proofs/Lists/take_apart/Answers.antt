-- Records that stand have their payloads inside the bytes and the limits.
use Rattle.std.proofs.Common.{sym}
use Rattle.job_input.proofs.JobLaws.{placed}
use Rattle.job_lists.proofs.Lists.take_apart.Goals as goal

pub fill-requires : goal.fill-requires
fill-requires c = placed _ _ (sym c.in_ok-places.ensures)
