-- The last four of the number's bytes are its four bytes.
use Rattle.job_output.specs.Output.{head_of}
use Rattle.job_output.proofs.OutputLaws.{enc_four}
use Rattle.job_output.proofs.head.Goals as goal
use Rattle.job_output.proofs.head.Goals.{in-Ok, in-Err}

pub returns : goal.returns
unfolding head_of
returns c =
    elim c.match-reply.branch [
      | in-Ok w ↦ rw (w.in-Ok.is, c.to_be_bytes.ensures, w.length-is, enc_four)
      | in-Err w ↦ rw (w.in-Err.is, c.to_be_bytes.ensures, w.length-is, enc_four)
    ]
