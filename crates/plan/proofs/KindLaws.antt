-- What becomes of a record whatever kind its subtable is of: what never does, and that it depends on the subtable's place alone.
use Prim.Native.Nat.{ℕ}
use mathlib.Core.Path.{◌≡◌, refl, ap}
use mathlib.Core.List.{List}
use mathlib.Core.Bool.{Bool, false}
use Rattle.laws.specs.Lists.{Pair, pairs}
use Rattle.laws.specs.Select.{select}
use Rattle.source.specs.declared.Kind.{Kind}
use Rattle.source.specs.declared.Kind.TheVariants.{Format4, Format12, Format14, Unreadable}
use Rattle.source_header.specs.Header.{offset_of}
use Rattle.source.specs.Kind.{kind_at}
use Rattle.source_records.specs.Records.{leads_to}
use Rattle.plan_listing.specs.Job.{Job, glyph_count}
use Rattle.plan_listing.specs.Listing.{maps_as, maps, listed}
use Rattle.format4.specs.declared.Size4.{Size4}
use Rattle.format4.specs.declared.Size4.TheVariants.{Empty as Empty4, TooLong as TooLong4, Fits}
use Rattle.format4.specs.Size.{size_of4, length_of4}
use Rattle.format12.specs.Format12.{size_of12}
use Rattle.format14.specs.Selectors.{job14}
use Rattle.format14.specs.declared.Outcome14.{Outcome14}
use Rattle.format14.specs.declared.Outcome14.TheVariants.{Refused8, Empty as Empty14, Length}
use Rattle.format14.specs.Format14.{outcome14}
use Rattle.plan.specs.declared.Outcome.{Outcome}
use Rattle.plan.specs.declared.Why.TheVariants.{Skipped, Empty, TooLong}
use Rattle.plan.specs.declared.Outcome.TheVariants.{LeftOut, BadMapping, Made}
use Rattle.plan.specs.Fresh.{listed_of, job14_of, by4, by14, fresh_as, fresh}

-- ---- what is never fresh

pub fresh_never : (j : Job) (k : ℕ) (p : Outcome → Bool) → p (LeftOut Skipped) ≡ false → p (LeftOut Empty) ≡ false → p (LeftOut TooLong) ≡ false → p BadMapping ≡ false → ((n : ℕ) → p (Made n) ≡ false)
    → p (fresh j k) ≡ false
unfolding fresh
fresh_never j k p skipped empty long bad made = go (leads_to j.source k)
  where
    size4 : (size : Size4) → p (by4 size) ≡ false
    size4 Empty4 = empty
    size4 TooLong4 = long
    size4 (Fits c) = made (length_of4 c)

    size14 : (o : Outcome14) → p (by14 o) ≡ false
    size14 Refused8 = bad
    size14 Empty14 = empty
    size14 (Length n) = made n

    go : (kind : Kind) → p (fresh_as kind j k) ≡ false
    go (Format4 language s len) = size4 (size_of4 (listed_of j k))
    go (Format12 language g len) = made (size_of12 (listed_of j k)).bytes
    go (Format14 r len) = size14 (outcome14 (job14_of j k len))
    go Unreadable = skipped

-- ---- what depends on the offset alone

pub leads_alike : (xs : List ℕ) (k r : ℕ) → offset_of xs r ≡ offset_of xs k → leads_to xs r ≡ leads_to xs k
unfolding leads_to
leads_alike xs k r e = ap (kind_at xs) e

pub maps_alike : (xs : List ℕ) (n k r : ℕ) → offset_of xs r ≡ offset_of xs k → maps xs n r ≡ maps xs n k
unfolding maps leads_to
maps_alike xs n k r e = ap {B = ℕ → Bool} (λ (at c : ℕ). maps_as (kind_at xs at) xs at n c) e

module _ (j : Job) (k r : ℕ) (e : offset_of j.source r ≡ offset_of j.source k) where
  listed_alike : listed_of j r ≡ listed_of j k
  unfolding listed
  listed_alike = ap (λ (m : ℕ → Bool). select (λ (p : Pair). m p.0) (pairs j.codes j.glyphs)) (maps_alike j.source (glyph_count j) k r e)

  pub fresh_alike : fresh j r ≡ fresh j k
  unfolding fresh
  fresh_alike = rw (leads_alike j.source k r e) (go (leads_to j.source k))
    where
      go : (kind : Kind) → fresh_as kind j r ≡ fresh_as kind j k
      go (Format4 language s len) = ap (λ ps. by4 (size_of4 ps)) listed_alike
      go (Format12 language g len) = ap (λ (ps : List Pair). Made (size_of12 ps).bytes) listed_alike
      go (Format14 n len) = ap (λ (at : ℕ). by14 (outcome14 (job14 j.source at len j.kept j.new_glyphs j.requested))) e
      go Unreadable = refl
