use Rattle.laws.proofs.SelectLaws.{Counting}
use Rattle.format14.specs.SelectorRecords.{used_at}
use Rattle.format14_selectors.proofs.count_records.Given as goal

abbrev pub invariant-loop-k : goal.invariant-loop-k
invariant-loop-k l = Counting (used_at l.ends) (λ i. i) l.n l.k l.count
