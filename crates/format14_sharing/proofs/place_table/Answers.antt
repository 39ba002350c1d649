use Rattle.laws.proofs.ChoiceLaws.{choices}
use Rattle.format14_sharing.proofs.AlikeLaws.{distances}
use borrow.Author.Rules.{rules}
use Rattle.format14_sharing.proofs.place_table.Goals as goal

pub returns-then-j-m-clause-ends_after : goal.returns-then-j-m-clause-ends_after
returns-then-j-m-clause-ends_after c = search distances

pub returns-then-j-m-clause-value : goal.returns-then-j-m-clause-value
returns-then-j-m-clause-value c = search (rules, choices)

pub returns-clause-ends_after : goal.returns-clause-ends_after
returns-clause-ends_after c = search distances

pub returns-clause-value : goal.returns-clause-value
returns-clause-value c = search (rules, choices)
