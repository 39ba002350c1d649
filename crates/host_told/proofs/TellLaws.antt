-- An answer is told by the numbers that the code has of it.
use Rattle.std.specs.Prelude.{Result}
use Prim.Native.Nat.{ℕ}
use mathlib.Core.Path.{◌≡◌, ap, ◌∙◌}
use Rattle.cmap_promise.specs.Cmap.{Answer}
use Rattle.cmap_promise.specs.declared.Fate.{Fate}
use Rattle.heads.specs.declared.HeadRefusal.{HeadRefusal}
use Rattle.heads.specs.Heads.{head_number_of, printed_of}
use Rattle.host_told.specs.declared.SubsetAnswer.{SubsetAnswer}
use Rattle.host_told.specs.declared.FateAnswer.{FateAnswer}
use Rattle.host_told.specs.declared.HeadAnswer.{HeadAnswer}
use Rattle.host_told.specs.Told.{told, told_fate, told_head}

pub tells_head : (a : Result ℕ HeadRefusal) (number glyph : ℕ) → number ≡ head_number_of a → glyph ≡ printed_of a → record { number = number; glyph = glyph } ≡ told_head a
tells_head a number glyph n g = rw (n, g)

-- what is told of an answer is told of its definition
pub told_as : (r : SubsetAnswer) (a b : Answer) → r ≡ told a → a ≡ b → r ≡ told b
told_as r a b e h = e ∙ ap told h

pub told_fate_as : (r : FateAnswer) (a b : Fate) → r ≡ told_fate a → a ≡ b → r ≡ told_fate b
told_fate_as r a b e h = e ∙ ap told_fate h

pub told_head_as : (r : HeadAnswer) (a b : Result ℕ HeadRefusal) → r ≡ told_head a → a ≡ b → r ≡ told_head b
told_head_as r a b e h = e ∙ ap told_head h

pub ruleset telling = (tells_head, told_as, told_fate_as, told_head_as)
