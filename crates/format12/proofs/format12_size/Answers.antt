-- The count of the groups, and the length of a subtable of so many.
use native.Mathlib.Omega.{arith}
use Rattle.format12.proofs.GroupsLaws.{length-groups}
use Rattle.format12.proofs.format12_size.Goals as goal

pub overflow_mul-result : goal.overflow_mul-result
overflow_mul-result c = let a = c.args in omega (arith, length-groups a.codes.now a.glyphs.now)

pub overflow_add-result : goal.overflow_add-result
overflow_add-result c = let a = c.args in omega (arith, length-groups a.codes.now a.glyphs.now)

pub returns : goal.returns
returns c = simp c.count_groups-groups.ensures
