use Rattle.number.proofs.BigEndianLaws.{num_step}
use Rattle.number.proofs.u32_at.Goals as goal

pub returns : goal.returns
returns c = num_step 3 c.u24_at.ensures c.byte_at.ensures
