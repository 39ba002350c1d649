use Rattle.number.proofs.BigEndianLaws.{num_one, num_step}
use Rattle.number.proofs.u16_at.Goals as goal

pub returns : goal.returns
returns c = num_step 1 (num_one c.byte_at.ensures) c.byte_at-2.ensures
