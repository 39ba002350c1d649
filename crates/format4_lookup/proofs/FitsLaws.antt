-- The numbers of the segments and of the glyph array have 16 bits where code points and glyphs do.
use Prim.Native.Nat.{ℕ, ◌<◌}
use native.Mathlib.Omega.{arith}
use mathlib.Core.Path.{◌≡◌}
use mathlib.Core.List.{List, [], ◌∷◌, map}
use mathlib.Core.Bool.{Bool, true, false, not}
use lib.Dec.{eqb}
use Rattle.laws.specs.Lists.{Pair}
use Rattle.laws.specs.Linked.{Each}
use Rattle.laws.proofs.ChoiceLaws.{by_pick}
use Rattle.laws.proofs.EachLaws.{each_append, each_of, each_both, each_parts, each_map, each_mapped, each_concat}
use Rattle.format4_cutting.specs.declared.Segment.{Segment}
use Rattle.format4_cutting.specs.Cutting.{ranges_of, runs_of, Cut, cut_of, present, cut_range, cuts, first_code, last_code, segment_of, last_end, segments, glyphs, array_of, glyph_array, closing}
use Rattle.format4_cutting.proofs.CuttingLaws.{parts, cuts_pairs, runs_each, cuts_each}
use Rattle.format4_lookup.specs.CutLookup.{Fits16}

abbrev pub Fit : Cut → Type 0
Fit x = Each Fits16 x.pairs

pub cuts_fit : (ps : List Pair) → Each Fits16 ps → Each Fit (cuts ps)
cuts_fit ps h = each_mapped (Each Fits16) (λ (x : Cut). x.pairs) (cuts ps) (each_parts Fits16 (parts (cuts ps)) (rw (cuts_pairs ps) h))

pub first_low : (ps : List Pair) → Each Fits16 ps → first_code ps < 65536
first_low [] h = omega arith
first_low (p ∷ ps) h = h.0.0

last_low : (ps : List Pair) → Each Fits16 ps → last_code ps < 65536
last_low [] h = omega arith
last_low (p ∷ []) h = h.0.0
last_low (p ∷ q ∷ ps) h = last_low (q ∷ ps) h.1

-- ---- deltas, of any pairs

abbrev DeltaFits : Cut → Type 0
DeltaFits x = x.delta < 65536

abbrev Any : List Pair → Type 0
Any ps = Unit {0}

each_any : (pss : List (List Pair)) → Each Any pss
each_any [] = tt
each_any (ps ∷ pss) = (tt, each_any pss)

runs_delta : (runs : List (List Pair)) → present runs ≡ true → Each Any runs → DeltaFits (cut_of runs)
runs_delta [] e h = omega arith
runs_delta ([] ∷ []) e h = omega arith
runs_delta ((p ∷ run) ∷ []) e h = omega arith
runs_delta (run ∷ next ∷ runs) e h = omega arith

cuts_delta : (ps : List Pair) → Each DeltaFits (cuts ps)
cuts_delta ps =
    cuts_each DeltaFits ps
    (each_of Any (λ (range : List Pair). Each DeltaFits (cut_range range)) (λ range _. runs_each Any DeltaFits runs_delta 8 [] (runs_of range) tt (each_any (runs_of range))) (ranges_of ps) (each_any (ranges_of ps)))

-- ---- segments

pub record SegmentFits (x : Segment) : Type 0 where
  pub start : x.start < 65536
  pub end : x.end < 65536
  pub delta : x.delta < 65536

closing_fits : (t : Bool) → Each SegmentFits (closing t)
closing_fits true = (record { start = omega arith; end = omega arith; delta = omega arith }, tt)
closing_fits false = tt

pub segments_fit : (ps : List Pair) → Each Fits16 ps → Each SegmentFits (segments ps)
unfolding segments
segments_fit ps h =
    let fit : (x : Cut) → Fit x × DeltaFits x → SegmentFits (segment_of x) = λ x f. record { start = first_low x.pairs f.0; end = last_low x.pairs f.0; delta = f.1 } in
    let ss = map segment_of (cuts ps) in
    each_append SegmentFits ss (closing (not (eqb (last_end ss) 65535)))
    (each_map SegmentFits segment_of (cuts ps) (each_of (λ (x : Cut). Fit x × DeltaFits x) (λ (x : Cut). SegmentFits (segment_of x)) fit (cuts ps) (each_both Fit DeltaFits (cuts ps) (cuts_fit ps h) (cuts_delta ps))))
    (closing_fits (not (eqb (last_end ss) 65535)))

-- ---- the glyph array

abbrev pub Low : ℕ → Type 0
Low n = n < 65536

array_low : (x : Cut) → Fit x → Each Low (array_of x)
array_low x h =
    by_pick (Each Low) (eqb x.delta 0) (glyphs x.pairs) []
    (λ _. each_map Low (λ (p : Pair). p.1) x.pairs (each_of Fits16 (λ (p : Pair). p.1 < 65536) (λ p f. f.1) x.pairs h)) (λ _. tt)

pub array_fits : (ps : List Pair) → Each Fits16 ps → Each Low (glyph_array ps)
unfolding glyph_array
array_fits ps h = each_concat Low array_of (cuts ps) (each_of Fit (λ (x : Cut). Each Low (array_of x)) array_low (cuts ps) (cuts_fit ps h))
