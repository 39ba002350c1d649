-- Each of the segments committed is written at the places that the one before left.
use Prim.Native.Nat.{ℕ}
use mathlib.Core.List.{List}
use mathlib.Core.Path.{refl, ◌∙◌, ap, ap₂}
use Rattle.format4_columns.specs.declared.RangeWriter.{RangeWriter}
use Rattle.format4_columns.specs.Places.{put_all, put_one, moved_by, next_of}
use Rattle.format4_columns.proofs.RangeWriter.absorb.Goals as goal

pub returns-in-None : goal.returns-in-None
unfolding put_all moved_by
returns-in-None c = simp c.in-None.is (refl, refl)

pub returns-in-One : goal.returns-in-One
unfolding put_all moved_by
returns-in-One c = simp c.in-One.is c.write_one_range.ensures

pub returns-in-Two : goal.returns-in-Two
unfolding put_all moved_by
returns-in-Two c = let e = c.write_one_range-w.ensures in let f = c.write_one_range-in-Two.ensures in let v = c.in-Two in let g = c.args in
    simp v.is (f.0 ∙ ap (λ (w : RangeWriter). next_of w v.b) e.0, f.1 ∙ ap₂ (λ (o : List ℕ) (w : RangeWriter). put_one g.glyphs.now o w v.b) e.1 e.0)
