-- A table with an equal later on shares its distance; any other stands before all later ones.
use Rattle.std.proofs.Common.{arith, rules, ◌-◌}
use Rattle.format14_places.specs.Measuring.{none}
use Rattle.format14_places.proofs.PlacingLaws.{placing_start, placing_missing, placing_there, placing_ends, placing_total, tail_fits}
use Rattle.format14_places.proofs.place_tables.Goals as goal

pub loop-k-init : goal.loop-k-init
loop-k-init c = (placing_start _ _ _ _ (omega arith) (omega arith), search rules)

pub loop-k-preserved-then-size-eq0 : goal.loop-k-preserved-then-size-eq0
loop-k-preserved-then-size-eq0 c = let here = c.requires.measured.each (c.loop-k.k - 1) none (omega (arith, c.loop-k.invariant.0.within)) in
    (search (placing_missing, here.size), search rules)

pub place_table-tail-requires-clause-size_bound : goal.place_table-tail-requires-clause-size_bound
place_table-tail-requires-clause-size_bound c = let here = c.requires.measured.each (c.loop-k.k - 1) none (omega (arith, c.loop-k.invariant.0.within)) in
    search (tail_fits, here.size)

pub loop-k-preserved : goal.loop-k-preserved
loop-k-preserved c = let here = c.requires.measured.each (c.loop-k.k - 1) none (omega (arith, c.loop-k.invariant.0.within)) in
    (search (placing_there, here.size), search rules)

pub returns : goal.returns
returns c = (search placing_ends, search placing_total)
