-- A table further from the end than all written so far is written right before them.
use borrow.Author.Rules.{rules}
use native.Mathlib.Omega.{arith}
use Rattle.format14.proofs.FillingLaws.{filling, slot_room, far_fits}
use Rattle.format14_writer.proofs.copy_var_selector_record_uvs_tables.Goals as goal

pub loop-k-init : goal.loop-k-init
loop-k-init c = (search filling, search rules)

pub overflow_sub-stop : goal.overflow_sub-stop
overflow_sub-stop c = search far_fits

pub copy_table-requires-clause-room : goal.copy_table-requires-clause-room
copy_table-requires-clause-room c = search slot_room

pub loop-k-preserved-then-far-tail : goal.loop-k-preserved-then-far-tail
loop-k-preserved-then-far-tail c = (search filling, omega arith)

pub loop-k-preserved : goal.loop-k-preserved
loop-k-preserved c = (search filling, omega arith)

pub returns : goal.returns
returns c = search filling
