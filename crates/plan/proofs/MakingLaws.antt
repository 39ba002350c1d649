-- Two columns that are those of the listed pairs of a record.
use Prim.Native.Nat.{ℕ, ◌≤◌}
use mathlib.Core.Path.{◌≡◌, refl, sym, ap, ◌∙◌}
use mathlib.Core.List.{List, [], ◌∷◌}
use native.Mathlib.Omega.{arith}
use lib.ListN.{length}
use Rattle.laws.specs.Lists.{Pair, pairs}
use Rattle.laws.proofs.LengthLaws.{length-map, length_pairs, length-select}
use Rattle.number.specs.Limits.{pairs_max}
use Rattle.plan_listing.specs.Job.{Job}
use Rattle.plan_listing.specs.Listing.{maps, listed, code_column, glyph_column}
use Rattle.plan.specs.Fresh.{listed_of}
use Rattle.plan.specs.Making.{PairsRoom}

pub pairs_columns : (ps : List Pair) → pairs (code_column ps) (glyph_column ps) ≡ ps
pairs_columns [] = refl
pairs_columns (p ∷ ps) = ap (λ (l : List Pair). p ∷ l) (pairs_columns ps)

pub length-listed : (j : Job) (k : ℕ) → length (listed_of j k) ≤ length j.codes
unfolding listed
length-listed j k =
    let a = length-select (λ p. maps j.source (length j.new_glyphs) k p.0) (pairs j.codes j.glyphs) in
    let b = length_pairs j.codes j.glyphs in
    omega arith

module _ (ps : List Pair) (ds hs : List ℕ) (e : (ds ≡ code_column ps) × (hs ≡ glyph_column ps)) where
  pub columns_pairs : pairs ds hs ≡ ps
  columns_pairs = rw (e.0, e.1) (pairs_columns ps)

  pub columns_even : length ds ≡ length hs
  columns_even = rw (e.0, e.1) (length-map (λ (p : Pair). p.0) ps ∙ sym (length-map (λ (p : Pair). p.1) ps))

pub columns_few : (j : Job) (k : ℕ) (fs tocs togs : List ℕ) → PairsRoom j k fs tocs togs → (ds : List ℕ) → ds ≡ code_column (listed_of j k) → length ds ≤ pairs_max
columns_few j k fs tocs togs p ds e =
    let l = length-map (λ (q : Pair). q.0) (listed_of j k) in
    let u = length-listed j k in
    rw e (omega (arith, l, u, p.few))
