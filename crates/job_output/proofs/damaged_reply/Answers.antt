use Rattle.std.proofs.Common.{refl}
use Rattle.job_output.specs.Answered.{reply_to}
use Rattle.job_output.proofs.damaged_reply.Goals as goal

pub returns : goal.returns
unfolding reply_to
returns c = refl
