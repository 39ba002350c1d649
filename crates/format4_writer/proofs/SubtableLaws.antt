-- What the size that was found says of the places, and that header and columns are the definition's bytes.
use Prim.Native.Nat.{ℕ, ◌+◌, ◌-◌, ◌≤◌}
use mathlib.Core.Path.{◌≡◌, sym, ◌∙◌, ap, subst}
use mathlib.Core.List.{List}
use native.Mathlib.Omega.{arith}
use lib.ListN.{length}
use lib.Seq.{sets}
use Rattle.laws.specs.Lists.{pairs}
use Rattle.laws.proofs.PairsLaws.{seconds_pairs, length_even}
use Rattle.format4_cutting.specs.Steps.{entries, array_from}
use Rattle.format4.specs.declared.RangeCounter.{RangeCounter}
use Rattle.format4_cutting.specs.Cutting.{segments, glyph_array}
use Rattle.format4_cutting.proofs.CuttingLaws.{array_from_lem, length_array}
use Rattle.format4.specs.Format4.{format4}
use Rattle.format4.specs.Walk.{Fed}
use Rattle.format4.specs.Size.{Columns16, length_of4}
use Rattle.format4.proofs.CutLaws.{segments_fed}
use Rattle.format4.proofs.CountLaws.{Told}
use Rattle.format4_columns.specs.Places.{SegmentsRoom, Apart, columns_at, places_at, headed}
use Rattle.format4_columns.proofs.PlacesLaws.{apart_at, whole_subtable}

module _ (cs gs : List ℕ) (n : RangeCounter) (k : Columns16 cs gs) (t : Told (pairs cs gs) n) (at : ℕ) where
  pub told_apart : Apart (places_at at n.segments) (length (segments (pairs cs gs))) 0
  told_apart = rw t.is (apart_at at (length (segments (pairs cs gs))))

  pub told_room : (l : ℕ) → at + length_of4 n ≤ l → SegmentsRoom (places_at at n.segments) (segments (pairs cs gs)) (length gs) l
  told_room l h =
      let s : n.segments ≡ length (segments (pairs cs gs)) = ap (λ (m : RangeCounter). m.segments) t.is in
      let g : n.glyphs ≡ entries (segments (pairs cs gs)) = ap (λ (m : RangeCounter). m.glyphs) t.is ∙ length_array (pairs cs gs) in
      let e = length_even cs gs k.even in
      let z : length (pairs cs gs) ≡ length gs - 0 = omega arith in
      let short = t.short in
      let even = k.even in
      let few = k.few in
      record { places = omega arith; fed = subst (λ (m : ℕ). Fed m (segments (pairs cs gs))) z (segments_fed (pairs cs gs)) }

  pub told_is : (language : ℕ) (o : List ℕ)
      → columns_at gs (headed o at language n.segments n.glyphs) (places_at at n.segments) 0 (segments (pairs cs gs)) ≡ sets o at (format4 language (pairs cs gs))
  unfolding format4
  told_is language o =
      let ps = pairs cs gs in
      let z : array_from gs (segments ps) ≡ glyph_array ps = ap (λ (l : List ℕ). array_from l (segments ps)) (sym (seconds_pairs cs gs k.even)) ∙ array_from_lem ps in
      rw (t.is, ← z) (whole_subtable language gs (segments ps) o at)
