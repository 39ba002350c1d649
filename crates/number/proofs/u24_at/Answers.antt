use Rattle.number.proofs.BigEndianLaws.{num_step}
use Rattle.number.proofs.u24_at.Goals as goal

pub returns : goal.returns
returns c = num_step 2 c.u16_at.ensures c.byte_at.ensures
