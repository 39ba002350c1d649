use Rattle.host_told.proofs.TellLaws.{telling}
use borrow.Author.Rules.{rules}
use Rattle.host_told.proofs.old_head.Goals as goal

pub returns : goal.returns
returns c = search (rules, telling)
