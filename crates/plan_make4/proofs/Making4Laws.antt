-- What format 4 asks of two columns of the listed pairs, and what their size tells.
use Prim.Native.Nat.{ℕ, ◌+◌, ◌≤◌}
use mathlib.Core.Path.{◌≡◌, sym, ap, ◌∙◌}
use mathlib.Core.List.{List}
use lib.Seq.{sets}
use Rattle.laws.specs.Lists.{Pair, pairs}
use Rattle.plan_listing.specs.Job.{Job, glyph_count}
use Rattle.plan_listing.specs.Listing.{code_column, glyph_column}
use Rattle.format4.specs.declared.RangeCounter.{RangeCounter}
use Rattle.format4.specs.declared.Size4.{Size4}
use Rattle.format4.specs.declared.Size4.TheVariants.{Fits}
use Rattle.format4.specs.Format4.{format4}
use Rattle.format4.specs.Size.{size_of4, length_of4, Columns16}
use Rattle.plan.specs.Fresh.{listed_of}
use Rattle.plan.specs.Making.{PairsRoom, Leads}
use Rattle.plan.proofs.BelowLaws.{listed_below}
use Rattle.plan.proofs.MakingLaws.{columns_pairs, columns_even, columns_few}
use Rattle.plan_make4.specs.Fits4.{Fits4, OfBytes}

pub columns16 : (j : Job) (k : ℕ) (fs tocs togs : List ℕ) → PairsRoom j k fs tocs togs → OfBytes j.source → Leads j.source k 4
    → (ds hs : List ℕ) → (ds ≡ code_column (listed_of j k)) × (hs ≡ glyph_column (listed_of j k)) → Columns16 ds hs
columns16 j k fs tocs togs p y l ds hs e =
    record {
      even = columns_even (listed_of j k) ds hs e;
      few = columns_few j k fs tocs togs p ds e.0;
      low = rw e.0 (listed_below j.source (glyph_count j) j.codes j.glyphs k y.bytes l);
    }

module _ (ps : List Pair) (ds hs : List ℕ) (e : (ds ≡ code_column ps) × (hs ≡ glyph_column ps)) where
  pub sized4 : (r : Size4) → r ≡ size_of4 (pairs ds hs) → r ≡ size_of4 ps
  sized4 r h = h ∙ ap size_of4 (columns_pairs ps ds hs e)

  pub fits_room : (at l : ℕ) → Fits4 ps at l → (r : Size4) → r ≡ size_of4 (pairs ds hs) → (n : RangeCounter) → r ≡ Fits n → at + length_of4 n ≤ l
  fits_room at l f r h n q =
      let z : Fits f.counter ≡ Fits n = sym f.is ∙ sym (sized4 r h) ∙ q in
      let y : f.counter ≡ n = cc in
      rw y at f.room

  pub wrote4 : (language at : ℕ) (out next : List ℕ) → next ≡ sets out at (format4 language (pairs ds hs)) → next ≡ sets out at (format4 language ps)
  wrote4 language at out next h = rw (columns_pairs ps ds hs e) at h

  pub not_unfit : (at l : ℕ) → Fits4 ps at l → (r : Size4) → r ≡ size_of4 (pairs ds hs) → ((n : RangeCounter) → r ≡ Fits n → ⊥) → {A : Type 0} (a b : A) → a ≡ b
  not_unfit at l f r h no_fit a b = absurd (no_fit f.counter (sized4 r h ∙ f.is))

pub ruleset made4 = (columns16, sized4, fits_room, wrote4)
