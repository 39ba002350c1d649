use Rattle.number.proofs.BigEndianLaws.{put_step}
use Rattle.number_writer.proofs.put_u32.Goals as goal

pub returns : goal.returns
returns c = rw c.put_u24.ensures (put_step 3 _ _ _)
