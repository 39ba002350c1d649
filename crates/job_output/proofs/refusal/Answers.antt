use mathlib.Core.Path.{refl}
use Rattle.number.specs.BigEndian.{enc}
use Rattle.job_output.specs.Output.{refused}
use Rattle.job_output.proofs.refusal.Goals as goal

pub returns : goal.returns
unfolding refused enc
returns c = refl
