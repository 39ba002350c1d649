-- A subtable's length.
use Prim.Native.Nat.{ℕ}
use mathlib.Core.Path.{◌≡◌, ◌∙◌}
use mathlib.Core.List.{List, [], ◌∷◌}
use native.Mathlib.Omega.{arith}
use lib.ListN.{length, length-append}
use Rattle.number.specs.Row.{encs}
use Rattle.number.proofs.RowLaws.{length-encs}
use Rattle.format12.specs.declared.Group.{Group}
use Rattle.format12.specs.Format12.{fields, table_length, header12, group_table}
use Rattle.format12.proofs.WalkLaws.{length_group_bytes}

pub length_header : (format language n : ℕ) → length (header12 format language n) ≡ 16
unfolding header12
length_header format language n =
    length-append (encs 2 (format ∷ 0 ∷ [])) (encs 4 (table_length n ∷ language ∷ n ∷ []))
    ∙ omega (arith, length-encs 2 (format ∷ 0 ∷ []), length-encs 4 (table_length n ∷ language ∷ n ∷ []))

pub length_table : (format language : ℕ) (gs : List Group) → length (group_table format language gs) ≡ table_length (length gs)
unfolding group_table
length_table format language gs =
    length-append (header12 format language (length gs)) (encs 4 (fields gs))
    ∙ omega (arith, length_header format language (length gs), length_group_bytes gs)
