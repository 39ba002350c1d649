use Rattle.number.proofs.BigEndianLaws.{put_step}
use Rattle.number_writer.proofs.put_u24.Goals as goal

pub returns : goal.returns
returns c = rw c.put_u16.ensures (put_step 2 _ _ _)
