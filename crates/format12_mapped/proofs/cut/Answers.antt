-- A group that starts past the cut end is skipped either way; else the definition's own test is by how much is passed over.
use Prim.Native.Nat.{ℕ, ◌+◌}
use mathlib.Core.Path.{◌≡◌, refl}
use native.Mathlib.Nat.{add-zero}
use native.Mathlib.Omega.{arith}
use lib.Dec.{eqb}
use mir.Val.{bool_byte}
use borrow.Author.Tests.{eqb-true, eqb-false}
use Rattle.std.specs.Prelude.{Option}
use Rattle.laws.specs.Choice.{if_eq}
use Rattle.laws.proofs.ChoiceLaws.{by_test, if_lt_lem, if_eq_lem, else_eq}
use Rattle.laws.proofs.SomeLaws.{each_eq}
use Rattle.format12_mapped.specs.declared.Stretch.{Stretch}
use Rattle.format12_mapped.specs.Mapped12.{cut12, clip12}
use Rattle.format12_mapped.proofs.cut.Goals as goal

passed : (start end glyph n : ℕ) (r : Option Stretch) → r ≡ clip12 (start + bool_byte (eqb glyph 0)) end (glyph + bool_byte (eqb glyph 0)) n
    → r ≡ if_eq glyph 0 (clip12 (start + 1) end (glyph + 1) n) (clip12 start end glyph n)
passed start end glyph n r e =
    by_test _ (eqb glyph 0) (λ t. if_eq_lem _ _ _ _ (eqb-true glyph 0 t) (rw t at e))
    (λ t. else_eq _ _ _ _ (eqb-false glyph 0 t) (rw (t, add-zero, add-zero) at e))

pub returns-then-last-start : goal.returns-then-last-start
unfolding cut12 clip12
returns-then-last-start c = each_eq _ _ _ _ (if_lt_lem _ _ _ _ (omega arith) refl) (if_lt_lem _ _ _ _ (omega arith) refl)

pub returns : goal.returns
unfolding cut12
returns c = passed _ _ _ _ _ (rw (c.from-passed.ensures, c.min-last.ensures) at c.clip.ensures)
