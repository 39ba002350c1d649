-- Inner: format 4 subtables as numbers of two bytes, with what they map; a law computes them, and no promise names them.
use Rattle.std.specs.Prelude.{ℕ, List, [], ◌∷◌, ◌++◌, Bool, true, length}
use Rattle.laws.specs.Choice.{both}
use Rattle.laws.specs.Lists.{keep}
use Rattle.laws.specs.Select.{eq_list}
use Rattle.number.specs.Row.{encs}
use Rattle.format4_mapped.specs.Mapped4.{maps4}

-- a subtable of s segments, the points asked, and those of them that are mapped
pub record Mapped4Case : Type 0 where
  pub s : ℕ
  pub ends : List ℕ
  pub starts : List ℕ
  pub deltas : List ℕ
  pub offsets : List ℕ
  pub array : List ℕ
  pub asked : List ℕ
  pub mapped : List ℕ

-- the subtable's bytes, its header cleared, since only its place and length count here
abbrev pub subtable : Mapped4Case → List ℕ
subtable c =
    encs 2 ((0 ∷ 0 ∷ 0 ∷ 0 ∷ 0 ∷ 0 ∷ 0 ∷ []) ++ (c.ends ++ ((0 ∷ []) ++ (c.starts ++ (c.deltas ++ (c.offsets ++ c.array))))))

abbrev pub mapped4_good : List Mapped4Case → Bool
mapped4_good [] = true
mapped4_good (c ∷ cs) =
    both (eq_list (keep (maps4 (subtable c) 0 c.s (length (subtable c))) c.asked c.asked) c.mapped) (mapped4_good cs)

-- C1's segments; a segment that starts lower and ends at U+FFFF; a start's index that is negative; an entry 0, and an index past the array,
-- with a delta that is not added; two segments that hold 11, of which the later decides; a segment behind a start of 0xFFFF
abbrev pub mapped4_cases : List Mapped4Case
mapped4_cases =
    record { s = 2; ends = 0x41 ∷ 0xFFFF ∷ []; starts = 0x41 ∷ 0xFFFF ∷ []; deltas = 0xFFC0 ∷ 1 ∷ []; offsets = 0 ∷ 0 ∷ []; array = []; asked = 0x40 ∷ 0x41 ∷ 0x42 ∷ 0xFFFF ∷ []; mapped = 0x41 ∷ [] }
    ∷ record { s = 1; ends = 0xFFFF ∷ []; starts = 0xFFF0 ∷ []; deltas = 5 ∷ []; offsets = 0 ∷ []; array = []; asked = 0xFFEF ∷ 0xFFF0 ∷ 0xFFFB ∷ 0xFFFF ∷ 0x10000 ∷ []; mapped = 0xFFF0 ∷ 0xFFFF ∷ [] }
    ∷ record { s = 2; ends = 11 ∷ 0xFFFF ∷ []; starts = 10 ∷ 0xFFFF ∷ []; deltas = 0 ∷ 1 ∷ []; offsets = 2 ∷ 0 ∷ []; array = 7 ∷ []; asked = 10 ∷ 11 ∷ []; mapped = [] }
    ∷ record { s = 2; ends = 13 ∷ 0xFFFF ∷ []; starts = 10 ∷ 0xFFFF ∷ []; deltas = 1 ∷ 1 ∷ []; offsets = 4 ∷ 0 ∷ []; array = 7 ∷ 0 ∷ 0xFFFF ∷ []; asked = 10 ∷ 11 ∷ 12 ∷ 13 ∷ []; mapped = 10 ∷ 12 ∷ [] }
    ∷ record { s = 3; ends = 12 ∷ 11 ∷ 0xFFFF ∷ []; starts = 10 ∷ 11 ∷ 0xFFFF ∷ []; deltas = 1 ∷ 0xFFF5 ∷ 1 ∷ []; offsets = 0 ∷ 0 ∷ 0 ∷ []; array = []; asked = 10 ∷ 11 ∷ 12 ∷ []; mapped = 10 ∷ 12 ∷ [] }
    ∷ record { s = 2; ends = 0xFFFF ∷ 12 ∷ []; starts = 0xFFFF ∷ 10 ∷ []; deltas = 1 ∷ 1 ∷ []; offsets = 0 ∷ 0 ∷ []; array = []; asked = 10 ∷ 11 ∷ 12 ∷ []; mapped = [] }
    ∷ []
