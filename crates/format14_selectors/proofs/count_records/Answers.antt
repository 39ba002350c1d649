-- Each record that is used counts once.
use Rattle.laws.proofs.SelectLaws.{counting}
use Rattle.format14_selectors.proofs.count_records.Goals.{then-is_used, else-is_used}
use Rattle.format14_selectors.proofs.count_records.Goals as goal

pub loop-k-init : goal.loop-k-init
loop-k-init c = search counting

pub loop-k-preserved : goal.loop-k-preserved
loop-k-preserved c = elim c.if-is_used.branch [
  | then-is_used w ↦ rw w.count-is (search (counting, w.if-is_used))
  | else-is_used w ↦ rw w.count-is (search (counting, w.if-is_used))
]

pub returns-clause-value : goal.returns-clause-value
returns-clause-value c = search counting
