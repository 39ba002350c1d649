-- Small non-default tables, computed from the definitions: two mappings, U+0041 to glyph 1 and U+0042 to glyph 2.
use mathlib.Core.Path.{◌≡◌, refl}
use mathlib.Core.List.{List, [], ◌∷◌}
use mathlib.Core.Bool.{true, false}
use Prim.Native.Nat.{ℕ}
use Rattle.laws.specs.Select.{each, select, any_of, flat}
use Rattle.lists_marks.specs.Marks.{holds}
use Rattle.number.specs.BigEndian.{be, enc}
use Rattle.format14_uvs.specs.Tables.{uvs_table}
use Rattle.format14_uvs.specs.NonDefault.{keeps_mapping, new_non_default, missing, bad_mapping}

unfoldable pub two : List ℕ
two = 0 ∷ 0 ∷ 0 ∷ 2 ∷ 0 ∷ 0 ∷ 0x41 ∷ 0 ∷ 1 ∷ 0 ∷ 0 ∷ 0x42 ∷ 0 ∷ 2 ∷ []

-- one stays for its code point, the other for its old glyph; the new glyphs are written
pub both_stay : new_non_default two 0 (0x41 ∷ []) (0 ∷ 7 ∷ 9 ∷ []) (2 ∷ []) ≡ 0 ∷ 0 ∷ 0 ∷ 2 ∷ 0 ∷ 0 ∷ 0x41 ∷ 0 ∷ 7 ∷ 0 ∷ 0 ∷ 0x42 ∷ 0 ∷ 9 ∷ []
unfolding two new_non_default uvs_table flat enc keeps_mapping holds select each be
both_stay = refl

-- none stays: no table
pub none_stays : new_non_default two 0 (0x40 ∷ []) (0 ∷ 7 ∷ 9 ∷ []) [] ≡ []
unfolding two new_non_default uvs_table flat enc keeps_mapping holds select each be
none_stays = refl

-- refusal 8: a glyph absent from the map, or not below n; a mapping that does not stay is of no account
pub absent_bad : bad_mapping two 0 (0x42 ∷ []) (0 ∷ 7 ∷ 65535 ∷ []) [] ≡ true
unfolding two bad_mapping missing any_of keeps_mapping holds select each be
absent_bad = refl

pub past_bad : bad_mapping two 0 (0x42 ∷ []) (0 ∷ 7 ∷ []) [] ≡ true
unfolding two bad_mapping missing any_of keeps_mapping holds select each be
past_bad = refl

pub other_good : bad_mapping two 0 (0x41 ∷ []) (0 ∷ 7 ∷ []) [] ≡ false
unfolding two bad_mapping missing any_of keeps_mapping holds select each be
other_good = refl
