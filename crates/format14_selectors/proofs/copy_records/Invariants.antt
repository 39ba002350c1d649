use Rattle.format14.proofs.SelectorRecordsLaws.{Copies}
use Rattle.format14_selectors.proofs.copy_records.Given as goal

abbrev pub invariant-loop-k : goal.invariant-loop-k
invariant-loop-k l = Copies l.s l.at l.total l.ends l.n l.initial.out l.to l.out l.place l.k
