-- Refusals 1 to 4: the sizes, and what each list breaks (docs/RULES.md, "What is lent" and "Numbers of refusal").
use Rattle.std.specs.Prelude.{ℕ, List, Bool, not, ltb, eqb}
use Rattle.laws.specs.Choice.{either}
use Rattle.number.specs.Limits.{source_max, pairs_max, kept_max, glyph_count_max, requested_max, unicode_max, new_glyph_max}
use Rattle.lists_order.specs.Order.{falls, exceeds, lacks, reaches_count}

-- ---- 1: a size is broken

unfoldable pub bad_sizes : ℕ → ℕ → ℕ → ℕ → ℕ → ℕ → Bool
bad_sizes source codes glyphs kept n requested =
    either (ltb source_max source)
    (either (not (eqb codes glyphs))
    (either (ltb pairs_max codes)
    (either (ltb kept_max kept)
    (either (eqb n 0)
    (either (ltb glyph_count_max n) (ltb requested_max requested))))))

-- ---- 2: pairs break order or limits

abbrev pub bad_pairs : List ℕ → List ℕ → Bool
bad_pairs codes glyphs = either (falls codes) (either (exceeds unicode_max codes) (exceeds new_glyph_max glyphs))

-- ---- 3: kept breaks order or limits, or lacks a listed code point

abbrev pub bad_kept : List ℕ → List ℕ → Bool
bad_kept kept codes = either (falls kept) (either (exceeds unicode_max kept) (lacks kept codes))

-- ---- 4: requested breaks order or limit

abbrev pub bad_requested : ℕ → List ℕ → Bool
bad_requested n requested = either (falls requested) (reaches_count n requested)
