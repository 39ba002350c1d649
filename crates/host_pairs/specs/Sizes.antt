-- Refusal 1 of a call over pair records, asked of the lengths alone (docs/RULES.md, "What is lent").
use Rattle.std.specs.Prelude.{ℕ, Bool, ltb}
use Rattle.laws.specs.Choice.{either}
use Rattle.lists_checks.specs.Checks.{bad_sizes}

-- 1: a size is broken, or a slice of the work room has fewer places than there are pairs
abbrev pub sizes_broken : ℕ → ℕ → ℕ → ℕ → ℕ → ℕ → ℕ → Bool
sizes_broken source pairs codes glyphs kept n requested =
    either (ltb codes pairs) (either (ltb glyphs pairs) (bad_sizes source pairs pairs kept n requested))
