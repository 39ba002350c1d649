-- The lengths of a format 4 subtable's parts, and of its bytes.
use Prim.Native.Nat.{ℕ, suc, ◌+◌}
use mathlib.Core.Path.{◌≡◌, refl, ap}
use mathlib.Core.List.{List, [], ◌∷◌, ◌++◌}
use mathlib.Core.Bool.{Bool, true, false}
use native.Mathlib.Omega.{arith}
use lib.Dec.{eqb}
use lib.ListN.{length, take, drop, length-append, length-map}
use Rattle.laws.specs.Choice.{pick}
use Rattle.laws.specs.Lists.{Pair}
use Rattle.number.proofs.RowLaws.{length-encs}
use Rattle.format4_cutting.specs.declared.Segment.{Segment}
use Rattle.format4_cutting.specs.Cutting.{segments, glyph_array, entries_of, points}
use Rattle.format4_cutting.specs.Steps.{array_from}
use Rattle.format4.specs.Format4.{offsets_from, length_with, header4, end_of, start_of, delta_of, numbers, format4}

pub length_offsets : (before : ℕ) (ss : List Segment) → length (offsets_from before ss) ≡ length ss
unfolding offsets_from
length_offsets before [] = refl
length_offsets before (x ∷ xs) = ap suc (length_offsets (before + entries_of x) xs)

-- a segment's part of the array, and the rest
pub array_step : (gs : List ℕ) (x : Segment) (xs : List Segment) → take (entries_of x) gs ++ array_from (drop (points x) gs) xs ≡ array_from gs (x ∷ xs)
unfolding array_from
array_step gs x xs = go (eqb x.delta 0)
  where
    rest : List ℕ
    rest = array_from (drop (points x) gs) xs

    go : (t : Bool) → take (pick t (points x) 0) gs ++ rest ≡ pick t (take (points x) gs ++ rest) rest
    go true = refl
    go false = refl

pub length-format4 : (language : ℕ) (ps : List Pair) → length (format4 language ps) ≡ length_with (length (segments ps)) (length (glyph_array ps))
unfolding format4 header4
length-format4 language ps =
    let ss = segments ps in
    let e = length-map ss end_of in
    let s = length-map ss start_of in
    let d = length-map ss delta_of in
    let o = length_offsets 0 ss in
    rw (length-encs 2 (numbers language ss (glyph_array ps))) (simp (length-append, e, s, d, o) (omega arith))
