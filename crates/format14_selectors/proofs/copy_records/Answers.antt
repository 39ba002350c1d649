-- What is left of the records, written from here, gives them all.
use native.Mathlib.Omega.{arith}
use Rattle.format14.proofs.SelectorRecordsLaws.{copies, copies_room, distances_less}
use Rattle.format14_selectors.proofs.copy_records.Goals.{then-is_used, else-is_used}
use Rattle.format14_selectors.proofs.copy_records.Goals as goal

pub loop-k-init : goal.loop-k-init
loop-k-init c = search copies

pub copy_record-requires-clause-distances : goal.copy_record-requires-clause-distances
copy_record-requires-clause-distances c = search distances_less

pub copy_record-requires-clause-room : goal.copy_record-requires-clause-room
copy_record-requires-clause-room c = (search copies_room, omega arith)

pub loop-k-preserved : goal.loop-k-preserved
loop-k-preserved c = elim c.if-is_used.branch [
  | then-is_used w ↦ rw (w.out-is, w.place-is) (search (copies, w.if-is_used))
  | else-is_used w ↦ rw (w.out-is, w.place-is) (search (copies, w.if-is_used))
]

pub returns : goal.returns
returns c = search copies
