use Rattle.std.proofs.Common.{refl}
use Rattle.job_lists.specs.Lent.{no_lists}
use Rattle.job_lists.proofs.Lists.new.Goals as goal

pub returns : goal.returns
unfolding no_lists
returns c = refl
