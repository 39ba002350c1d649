-- The library's logarithm is told by its two bounds.
use Rattle.format4_writer.proofs.LogLaws.{log_small, log_is}
use Rattle.format4_writer.proofs.floor_log2.Goals as goal

pub returns-clause-value : goal.returns-clause-value
returns-clause-value c = log_is _ _ c.ilog2.ensures.power_le c.ilog2.ensures.next_power_gt

pub returns-clause-small : goal.returns-clause-small
returns-clause-small c = (log_small _ _ c.ilog2.ensures.power_le c.ilog2.ensures.next_power_gt, c.ilog2.ensures.bound)
