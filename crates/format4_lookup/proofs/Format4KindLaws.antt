-- A written format 4 subtable is readable, as itself: its language, its number of segments, and its own length.
use Prim.Native.Nat.{ℕ, ◌+◌, ◌*◌, ◌≤◌, ◌<◌}
use mathlib.Core.Path.{◌≡◌, refl, sym, ap, ◌∙◌}
use mathlib.Core.List.{List, ◌++◌}
use native.Mathlib.Omega.{arith}
use lib.ListN.{length}
use lib.Seq.{sets}
use Rattle.laws.specs.Lists.{Pair}
use Rattle.laws.proofs.StandsLaws.{Stands, stands_append, stands_sets}
use Rattle.number.specs.BigEndian.{be}
use Rattle.format4_cutting.specs.Cutting.{segments, glyph_array}
use Rattle.format4_cutting.proofs.CuttingLaws.{segments_some}
use Rattle.source.specs.declared.Kind.TheVariants.{Format4}
use Rattle.source.specs.Kind as source
use Rattle.source.proofs.KindLaws.{gives4, Readable4, length_of}
use Rattle.source.proofs.StandsLaws.{kind_stands}
use Rattle.format4.specs.Format4.{length_with, header4, format4}
use Rattle.format4.specs.declared.RangeCounter.{RangeCounter}
use Rattle.format4.specs.declared.Size4.TheVariants.{Fits}
use Rattle.format4.specs.Size.{size_of4}
use Rattle.format4.proofs.Format4Laws.{length-format4}
use Rattle.format4.proofs.CountLaws.{fits_tells, length-told}
use Rattle.format4_lookup.specs.Lookup.{FieldsFit}
use Rattle.format4_lookup.proofs.ColumnsAtLaws.{format4-numbers, number_at}

module _ (language : ℕ) (ps : List Pair) where
  abbrev T : List ℕ
  T = format4 language ps

  abbrev S : ℕ
  S = length (segments ps)

  pub format4_readable : FieldsFit language ps → Readable4 T 0 language S (length T)
  unfolding header4
  format4_readable w =
      let n = number_at language (segments ps) (glyph_array ps) in
      let e = length-format4 language ps in
      let h = w.short in
      let four : be 2 T 0 ≡ 4 = rw (format4-numbers language ps) (n 0 0 4 refl refl (omega arith)) in
      let long : be 2 T 2 ≡ length T = rw (format4-numbers language ps) (n 2 1 (length_with S (length (glyph_array ps))) refl refl (omega arith)) ∙ sym e in
      let tongue : be 2 T 4 ≡ language = rw (format4-numbers language ps) (n 4 2 language refl refl w.language_fits) in
      let twice : be 2 T 6 ≡ 2 * S = rw (format4-numbers language ps) (n 6 3 (2 * S) refl refl (omega arith)) in
      let some = segments_some ps in
      record {
        language = sym tongue;
        segments = omega arith;
        long = sym long;
        four = four;
        even = omega arith;
        some = some;
        room = omega arith;
        fits = omega arith;
      }

  pub format4_kind : FieldsFit language ps → source.kind_at T 0 ≡ Format4 language S (length T)
  format4_kind w = sym (gives4 T 0 (format4_readable w))

  -- wherever it stands
  module _ {xs : List ℕ} {at : ℕ} (st : Stands xs at T) (w : FieldsFit language ps) where
    pub format4_kind_stands : source.kind_at xs at ≡ Format4 language S (length T)
    format4_kind_stands = kind_stands st (omega (arith, length-format4 language ps)) (ap length_of (format4_kind w)) ∙ format4_kind w

  pub format4_kind_between : (front back : List ℕ) → FieldsFit language ps → source.kind_at (front ++ (T ++ back)) (length front) ≡ Format4 language S (length T)
  format4_kind_between front back w = format4_kind_stands (stands_append front T back) w

  -- in what a writer leaves
  pub format4_kind_sets : (out : List ℕ) (at : ℕ) → at + length T ≤ length out → FieldsFit language ps → source.kind_at (sets out at T) at ≡ Format4 language S (length T)
  format4_kind_sets out at h w = format4_kind_stands (stands_sets out at T h) w

-- ---- a size that fits

-- where the size is found to fit, the subtable can be written
pub fits_written : {n : RangeCounter} (language : ℕ) (ps : List Pair) → size_of4 ps ≡ Fits n → language < 65536 → FieldsFit language ps
fits_written {n} language ps e h =
    let t = fits_tells ps n e in
    record { short = rw (length-told language ps n t) t.short; language_fits = h }
