-- Mappings that do not stay may be passed by.
use borrow.Author.Rules.{rules}
use Rattle.format14_same.proofs.RowLaws.{seeking}
use Rattle.format14_same.proofs.RowLaws.{seeking_found, seeking_on}
use Rattle.format14_same.proofs.next_mapping.Goals as goal

pub loop-j-init : goal.loop-j-init
loop-j-init c = search (rules, seeking)

pub returns-then-found : goal.returns-then-found
returns-then-found c = seeking_found _ _ _ _ _ _ _ _ c.loop-j.invariant c.keeps_mapping-found.ensures c.if-found.true

pub loop-j-preserved : goal.loop-j-preserved
loop-j-preserved c = seeking_on _ _ _ _ _ _ _ _ c.loop-j.invariant c.loop-j-test.true c.keeps_mapping-found.ensures c.if-found.false

pub returns : goal.returns
returns c = search seeking
