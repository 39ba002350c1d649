use Prim.Native.Nat.{◌*◌}
use mathlib.Core.Path.{◌≡◌}
use lib.ListN.{length}
use Rattle.format14.proofs.FillingLaws.{Filling}
use Rattle.format14.specs.Lent.{lent_job14}
use Rattle.format14.specs.Selectors.{selector_records}
use Rattle.format14.specs.ByNumber.{slot}
use Rattle.format14_writer.proofs.copy_var_selector_record_uvs_tables.Given as goal

abbrev pub invariant-loop-k : goal.invariant-loop-k
invariant-loop-k l = let g = lent_job14 l.job in
    Filling (slot g) (2 * selector_records g) l.stop l.initial.out l.k l.out l.tail × (length l.flags ≡ length l.initial.flags)
