-- The pairs are enough for the segments that they are cut into: each takes as many as it has points, and at most the closing one is left over.
use Prim.Native.Nat.{ℕ, ◌-◌, ◌≤◌}
use mathlib.Core.Path.{◌≡◌, subst}
use mathlib.Core.List.{List, [], ◌∷◌, ◌++◌, map}
use mathlib.Core.Bool.{Bool, true, false, not}
use native.Mathlib.Omega.{arith}
use lib.Dec.{eqb}
use lib.ListN.{length, length-append}
use Rattle.laws.specs.Lists.{Pair}
use Rattle.laws.specs.Linked.{Each}
use Rattle.laws.specs.Pieces.{concat}
use Rattle.laws.proofs.ChoiceLaws.{by_pick}
use Rattle.format4_cutting.specs.declared.Segment.{Segment}
use Rattle.format4_cutting.specs.Cutting.{Cut, cuts, last_code, segment_of, segments, closing, entries_of, points}
use Rattle.format4_cutting.proofs.CuttingLaws.{linked_length, parts, cuts_pairs, Adjacent, cuts_adjacent, segments_closed}
use Rattle.format4.specs.Walk.{Fed}

entries_points : (x : Segment) → entries_of x ≤ points x
entries_points x = by_pick (λ (n : ℕ). n ≤ points x) (eqb x.delta 0) (points x) 0 (λ _. omega arith) (λ _. omega arith)

cuts_fed : (cs : List Cut) (t : Bool) → Each Adjacent cs → Fed (length (concat (parts cs))) (map segment_of cs ++ closing t)
unfolding concat
cuts_fed [] true h = (omega arith, omega arith, tt)
cuts_fed [] false h = tt
cuts_fed (x ∷ cs) t h =
    let n = linked_length x.pairs h.0 in
    let m = length-append x.pairs (concat (parts cs)) in
    let z : length (concat (parts cs)) ≡ length (x.pairs ++ concat (parts cs)) - points (segment_of x) = omega (arith, n, m) in
    (omega (arith, entries_points (segment_of x), n, m), omega (arith, n, m), subst (λ (k : ℕ). Fed k (map segment_of cs ++ closing t)) z (cuts_fed cs t h.1))

pub segments_fed : (ps : List Pair) → Fed (length ps) (segments ps)
segments_fed ps =
    let t = not (eqb (last_code ps) 65535) in
    rw (segments_closed ps) (subst (λ (qs : List Pair). Fed (length qs) (map segment_of (cuts ps) ++ closing t)) (cuts_pairs ps) (cuts_fed (cuts ps) t (cuts_adjacent ps)))
