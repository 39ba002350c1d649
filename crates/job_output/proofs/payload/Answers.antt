use Rattle.job_output.specs.Output.{payload_of}
use Rattle.job_output.proofs.payload.Goals as goal

pub returns-in-Ok : goal.returns-in-Ok
unfolding payload_of
returns-in-Ok c = rw c.in-Ok.is

pub returns-in-Err : goal.returns-in-Err
unfolding payload_of
returns-in-Err c = rw (c.in-Err.is, c.from_ref.ensures.value)
