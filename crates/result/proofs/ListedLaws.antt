-- The listed pairs that a record's subtable maps: which glyph they list for a number, and that they can stand in its table.
use Prim.Native.Nat.{ℕ, zero, suc, ◌≤◌, ◌<◌}
use mathlib.Core.Path.{◌≡◌, refl, sym, ◌∙◌}
use mathlib.Core.List.{List, [], ◌∷◌}
use mathlib.Core.Bool.{Bool, true, false}
use native.Mathlib.Omega.{arith}
use lib.Dec.{eqb}
use lib.ListN.{length, get_or}
use borrow.Author.Tests.{eqb-true}
use Rattle.laws.specs.Choice.{pick}
use Rattle.laws.specs.Lists.{Pair, pairs}
use Rattle.laws.specs.Linked.{Each}
use Rattle.laws.specs.Listed as laws
use Rattle.laws.specs.Select.{select}
use Rattle.laws.proofs.ChoiceLaws.{pick_same, by_test}
use Rattle.source.specs.Kind.{format_of}
use Rattle.source_records.specs.Records.{leads_to}
use Rattle.plan_listing.specs.Job.{Job, glyph_count}
use Rattle.plan_listing.specs.Listing.{maps, listed, code_column}
use Rattle.plan.proofs.BelowLaws.{listed_below}
use Rattle.format4_lookup.specs.CutLookup.{Fits16, Listed16}
use Rattle.format12_lookup.specs.Lookup.{Above, above_none, above_more}
use Rattle.format12_lookup.proofs.LookupLaws.{above_pairs}
use Rattle.plan.specs.Fresh.{listed_of}
use Rattle.result.specs.Lent.{Lent}

-- ---- the glyph of a number

module _ {A : Type 0} (none : A) (glyph : ℕ → A) (f : ℕ → Bool) (c : ℕ) where
  -- pairs picked by their code points list what all list, where c itself passes
  pub listed_select : (ps : List Pair) → laws.listed_as none glyph (select (λ (p : Pair). f p.0) ps) c ≡ pick (f c) (laws.listed_as none glyph ps c) none
  unfolding laws.listed_as select
  listed_select [] = sym (pick_same (f c) none)
  listed_select (p ∷ ps) = go (f p.0) refl (eqb p.0 c) refl (select (λ (q : Pair). f q.0) ps) (listed_select ps)
    where
      go : (t : Bool) → f p.0 ≡ t → (u : Bool) → eqb p.0 c ≡ u → (r : List Pair) → laws.listed_as none glyph r c ≡ pick (f c) (laws.listed_as none glyph ps c) none
          → laws.listed_as none glyph (pick t (p ∷ r) r) c ≡ pick (f c) (pick u (glyph p.1) (laws.listed_as none glyph ps c)) none
      go true e true d r h =
          let passes : f c ≡ true = rw (eqb-true p.0 c d) at e in
          rw (d, passes)
      go true e false d r h = rw d h
      go false e true d r h =
          let fails : f c ≡ false = rw (eqb-true p.0 c d) at e in
          h ∙ rw fails
      go false e false d r h = h

-- the listed glyph where the record's subtable maps the number, else 0
pub listed_glyph_lem : (xs : List ℕ) (n : ℕ) (codes glyphs : List ℕ) (k c : ℕ) → laws.listed_glyph (listed xs n codes glyphs k) c ≡ pick (maps xs n k c) (laws.listed_glyph (pairs codes glyphs) c) 0
unfolding listed
listed_glyph_lem xs n codes glyphs k c = listed_select 0 (λ (g : ℕ). g) (maps xs n k) c (pairs codes glyphs)

-- ---- order and limits

above_from : {lo from : ℕ} {ps : List Pair} → lo ≤ from → Above from ps → Above lo ps
above_from h above_none = above_none
above_from {lo} h (above_more {p} a b c r) = above_more {lo = lo} {p = p} (omega arith) b c r

above_select : (q : Pair → Bool) {lo : ℕ} {ps : List Pair} → Above lo ps → Above lo (select q ps)
unfolding select
above_select q above_none = above_none
above_select q {lo} (above_more {p} {ps} a b c r) =
    let rest = above_select q r in
    by_test (Above lo (select q (p ∷ ps))) (q p)
    (λ e. rw e (above_more a b c rest))
    (λ e. rw e (above_from {from = suc p.0} (omega arith) rest))

rising_above : {lo : ℕ} {ps : List Pair} → Above lo ps → (i : ℕ) → suc i < length (code_column ps) → get_or (code_column ps) i 0 < get_or (code_column ps) (suc i) 0
rising_above above_none i h = absurd (omega arith)
rising_above (above_more a b c above_none) i h = absurd (omega arith)
rising_above (above_more a b c (above_more d e f r)) zero h = d
rising_above (above_more a b c (above_more d e f r)) (suc i) h = rising_above (above_more d e f r) i (omega arith)

fits_above : {lo : ℕ} {ps : List Pair} → Above lo ps → ((i : ℕ) → get_or (code_column ps) i 0 < 65536) → Each Fits16 ps
fits_above above_none low = tt
fits_above (above_more a b c r) low = ((low 0, omega arith), fits_above r (λ i. low (suc i)))

module _ {j : Job} (l : Lent j) (k : ℕ) where
  -- what format 12 asks for
  pub above_listed : Above 0 (listed_of j k)
  unfolding listed
  above_listed =
      above_select (λ p. maps j.source (glyph_count j) k p.0)
      (above_pairs 0 j.codes j.glyphs l.codes_rise (λ h. omega arith) l.codes_low (λ i. let g = l.glyphs_low i in omega arith))

  -- what format 4 asks for
  pub fits_listed : format_of (leads_to j.source k) ≡ 4 → Listed16 (listed_of j k)
  fits_listed e = record {
    rising = record { climbs = rising_above above_listed };
    fits = fits_above above_listed (listed_below j.source (glyph_count j) j.codes j.glyphs k l.bytes (record { is = e }));
  }
