-- Which code points a format 12 subtable maps in a font of n glyphs (docs/RULES.md, "Which code points a subtable maps").
-- The subtable stands at `at` in xs.
use Rattle.std.specs.Prelude.{ℕ, ◌+◌, ◌-◌, min, List, Bool, false, Option, None, Some}
use Rattle.laws.specs.Choice.{if_lt, if_le, if_eq}
use Rattle.laws.specs.Search.{some}
use Rattle.number.specs.Limits.{unicode_max}
use Rattle.source.specs.Fields.{start_char_code, end_char_code, start_glyph_id}
use Rattle.lists_marks.specs.Marks.{between}
use Rattle.format12_mapped.specs.declared.Stretch.{Stretch}

abbrev pub stretch : ℕ → ℕ → Option Stretch
stretch start end = Some (record { start = start; end = end })

-- a group from a glyph that is not 0: skipped if start exceeds end or the glyph is at least n; where its last glyph is at least n, it is cut
unfoldable pub clip12 : ℕ → ℕ → ℕ → ℕ → Option Stretch
clip12 start end glyph n =
    if_lt end start None
    (if_le n glyph None
    (if_lt (glyph + end - start) n (stretch start end) (stretch start (min unicode_max (start + n - glyph)))))

-- the code points that a group maps: its end is cut to 0x10FFFF, and glyph 0 is passed over
unfoldable pub cut12 : ℕ → ℕ → ℕ → ℕ → Option Stretch
cut12 start end glyph n =
    if_eq glyph 0 (clip12 (start + 1) (min end unicode_max) (glyph + 1) n) (clip12 start (min end unicode_max) glyph n)

-- those of group g
abbrev pub group12 : List ℕ → ℕ → ℕ → ℕ → Option Stretch
group12 xs at n g = cut12 (start_char_code xs at g) (end_char_code xs at g) (start_glyph_id xs at g) n

abbrev pub stretch_holds : Option Stretch → ℕ → Bool
stretch_holds None = λ c. false
stretch_holds (Some t) = between t.start t.end

-- whether one of the first k groups maps c
abbrev pub among12 : List ℕ → ℕ → ℕ → ℕ → ℕ → Bool
among12 xs at n k c = some (λ g. stretch_holds (group12 xs at n g) c) k 0

-- whether some group maps c
unfoldable pub maps12 : List ℕ → ℕ → ℕ → ℕ → ℕ → Bool
maps12 xs at groups n c = among12 xs at n groups c
