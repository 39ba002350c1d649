-- What sizes and numbers hold to that refusals 1 to 4 let pass.
use Prim.Native.Nat.{ℕ, ◌≤◌}
use mathlib.Core.Path.{◌≡◌}
use mathlib.Core.List.{List}
use mathlib.Core.Bool.{Bool, false, not}
use native.Mathlib.Omega.{arith}
use lib.Dec.{ltb, eqb}
use lib.ListN.{length, get_or, get_or-eq_default}
use borrow.Author.Tests.{ltb-false, eqb-true, eqb-false}
use Rattle.laws.specs.Choice.{either}
use Rattle.laws.specs.Lists.{Rising}
use Rattle.laws.proofs.ChoiceLaws.{by_leb}
use Rattle.laws.proofs.EitherLaws.{true_of_not, neither_left, neither_right}
use Rattle.number.specs.Limits.{source_max, pairs_max, kept_max, glyph_count_max, requested_max, unicode_max, new_glyph_max}
use Rattle.lists_checks.specs.Checks.{bad_sizes, bad_pairs, bad_kept, bad_requested}
use Rattle.lists_order.specs.Order.{falls, exceeds, lacks, reaches_count}
use Rattle.lists_order.proofs.OrderLaws.{rising, at_most}

pub record Sizes (source codes glyphs kept n requested : ℕ) : Type 0 where
  pub source_short : source ≤ source_max
  pub even : codes ≡ glyphs
  pub few_pairs : codes ≤ pairs_max
  pub kept_few : kept ≤ kept_max
  pub some_glyph : 1 ≤ n
  pub few_glyphs : n ≤ glyph_count_max
  pub few_requested : requested ≤ requested_max

module _ (source codes glyphs kept n requested : ℕ) where
  pub sizes : bad_sizes source codes glyphs kept n requested ≡ false → Sizes source codes glyphs kept n requested
  unfolding bad_sizes
  sizes e₁ =
      let t₇ = ltb requested_max requested in
      let t₆ = ltb glyph_count_max n in
      let t₅ = eqb n 0 in
      let t₄ = ltb kept_max kept in
      let t₃ = ltb pairs_max codes in
      let t₂ = not (eqb codes glyphs) in
      let t₁ = ltb source_max source in
      let r₆ = either t₆ t₇ in
      let r₅ = either t₅ r₆ in
      let r₄ = either t₄ r₅ in
      let r₃ = either t₃ r₄ in
      let r₂ = either t₂ r₃ in
      let e₂ = neither_right t₁ r₂ e₁ in
      let e₃ = neither_right t₂ r₃ e₂ in
      let e₄ = neither_right t₃ r₄ e₃ in
      let e₅ = neither_right t₄ r₅ e₄ in
      let e₆ = neither_right t₅ r₆ e₅ in
      let z = eqb-false n 0 (neither_left t₅ r₆ e₅) in
      record {
        source_short = ltb-false source_max source (neither_left t₁ r₂ e₁);
        even = eqb-true codes glyphs (true_of_not (eqb codes glyphs) (neither_left t₂ r₃ e₂));
        few_pairs = ltb-false pairs_max codes (neither_left t₃ r₄ e₃);
        kept_few = ltb-false kept_max kept (neither_left t₄ r₅ e₄);
        some_glyph = omega (arith, z);
        few_glyphs = ltb-false glyph_count_max n (neither_left t₆ t₇ e₆);
        few_requested = ltb-false requested_max requested (neither_right t₆ t₇ e₆);
      }

-- past the end there is 0
pub low : (m : ℕ) (xs : List ℕ) → exceeds m xs ≡ false → (i : ℕ) → get_or xs i 0 ≤ m
low m xs e i =
    by_leb (get_or xs i 0 ≤ m) (length xs) i
    (λ h. rw (get_or-eq_default xs 0 {n = i} h) (omega arith))
    (λ h. at_most m xs e i h)

-- pairs
module _ (codes glyphs : List ℕ) (e : bad_pairs codes glyphs ≡ false) where
  abbrev limits : Bool
  limits = either (exceeds unicode_max codes) (exceeds new_glyph_max glyphs)

  pub codes_rise : Rising codes
  codes_rise = rising codes (neither_left (falls codes) limits e)

  pub codes_low : (i : ℕ) → get_or codes i 0 ≤ unicode_max
  codes_low = low unicode_max codes (neither_left (exceeds unicode_max codes) (exceeds new_glyph_max glyphs) (neither_right (falls codes) limits e))

  pub glyphs_low : (i : ℕ) → get_or glyphs i 0 ≤ new_glyph_max
  glyphs_low = low new_glyph_max glyphs (neither_right (exceeds unicode_max codes) (exceeds new_glyph_max glyphs) (neither_right (falls codes) limits e))

-- kept points
module _ (kept codes : List ℕ) (e : bad_kept kept codes ≡ false) where
  pub kept_rise : Rising kept
  kept_rise = rising kept (neither_left (falls kept) (either (exceeds unicode_max kept) (lacks kept codes)) e)

  pub kept_low : (i : ℕ) → get_or kept i 0 ≤ unicode_max
  kept_low =
      low unicode_max kept
      (neither_left (exceeds unicode_max kept) (lacks kept codes) (neither_right (falls kept) (either (exceeds unicode_max kept) (lacks kept codes)) e))

pub requested_rise : (n : ℕ) (requested : List ℕ) → bad_requested n requested ≡ false → Rising requested
requested_rise n requested e = rising requested (neither_left (falls requested) (reaches_count n requested) e)
