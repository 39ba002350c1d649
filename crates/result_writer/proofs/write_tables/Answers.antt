-- What is left of the tables, written from here, gives them all.
use Prim.Native.Nat.{◌+◌, ◌*◌, ◌≤◌}
use native.Mathlib.Omega.{arith}
use Rattle.result_writer.proofs.TablesLaws.{tabling, tabling_low, tabling_ready, tabling_room, tabling_known}
use Rattle.result_writer.proofs.WholeLaws.{whole}
use Rattle.result_writer.proofs.write_tables.Goals as goal

pub record_count-k-requires : goal.record_count-k-requires
record_count-k-requires c = search whole

pub loop-k-init : goal.loop-k-init
loop-k-init c = search tabling

pub overflow_add-place-in-Made : goal.overflow_add-place-in-Made
overflow_add-place-in-Made c = let low : c.loop-k.place + c.in-Made.size ≤ 516 + 64 * 4294967296 = search tabling_low in
    omega (arith, low)

pub write_table-requires : goal.write_table-requires
write_table-requires c = let l = c.loop-k.invariant in
    record { ready = search (tabling_ready, l); room = search (tabling_room, l); known = search (tabling_known, l) }

pub loop-k-preserved-in-Made : goal.loop-k-preserved-in-Made
loop-k-preserved-in-Made c = search tabling

pub loop-k-preserved : goal.loop-k-preserved
loop-k-preserved c = search tabling

pub returns : goal.returns
returns c = search tabling
