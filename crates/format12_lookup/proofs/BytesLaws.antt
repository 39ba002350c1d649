-- The header's numbers and each group's read back from the bytes of a subtable.
use Prim.Native.Nat.{ℕ, zero, suc, ◌+◌, ◌*◌, ◌^◌, ◌≤◌, ◌<◌}
use mathlib.Core.Path.{◌≡◌, refl, ◌∙◌}
use mathlib.Core.List.{List, [], ◌∷◌, ◌++◌, map}
use native.Mathlib.Nat.{not-suc-le-zero}
use native.Mathlib.Omega.{arith}
use lib.ListN.{length, get_or, length-append}
use Rattle.laws.specs.Lists.{Pair}
use Rattle.laws.specs.Pieces.{pieces, concat}
use Rattle.laws.proofs.LengthLaws.{length-map}
use Rattle.laws.proofs.PiecesLaws.{Joined, concat-pieces}
use Rattle.laws.proofs.PartedLaws.{Parted, parted_none, parted_last, parted_more, pieces_parted, length-pieces}
use Rattle.number.specs.BigEndian.{be}
use Rattle.number.specs.Row.{encs}
use Rattle.number.specs.Limits.{unicode_max}
use Rattle.number.proofs.BigEndianLaws.{be_front, be_back}
use Rattle.number.proofs.RowLaws.{length-encs, be-encs_fits}
use Rattle.format12.specs.declared.Group.{Group}
use Rattle.format12.specs.Format12.{consecutive, group, group_of, grouped, groups, fields, table_length, header12, group_table, format12}
use Rattle.format12.proofs.GroupsLaws.{last_joined}
use Rattle.format12.proofs.TableLaws.{length_header}
use Rattle.source.specs.Fields.{start_char_code, end_char_code, start_glyph_id}
use Rattle.format12_lookup.specs.Lookup.{Above, above_none, above_more}
use Rattle.format12_lookup.proofs.LookupLaws.{above_first, row_rest}

-- ---- numbers that fit four bytes

record Fit (vs : List ℕ) : Type 0 where
  each : (k : ℕ) → get_or vs k 0 < 256 ^ 4

fit_none : Fit []
fit_none = record { each = λ k. omega arith }

fit_more : {v : ℕ} {vs : List ℕ} → v < 4294967296 → Fit vs → Fit (v ∷ vs)
fit_more {v} {vs} h f = record { each = go }
  where
    go : (k : ℕ) → get_or (v ∷ vs) k 0 < 256 ^ 4
    go zero = h
    go (suc k) = f.each k

row_fit : {lo : ℕ} {x l : Pair} {xs : List Pair} (rest : List Pair) (gs : List Group) → Joined consecutive x xs l → Above lo ((x ∷ xs) ++ rest) → Fit (fields gs) → Fit (fields (group_of (x ∷ xs) ∷ gs))
row_fit rest gs j a g =
    let f = above_first a in
    let t = row_rest j a in
    rw (last_joined j) (fit_more (omega (arith, f.high)) (fit_more (omega (arith, t.high)) (fit_more (omega (arith, f.glyph)) g)))

rows_fit : {lo : ℕ} {rows : List (List Pair)} → Parted consecutive rows → Above lo (concat rows) → Fit (fields (map group_of rows))
unfolding concat
rows_fit parted_none a = fit_none
rows_fit (parted_last j) a = row_fit [] [] j a fit_none
rows_fit (parted_more {y} {ys} {ps} j d p) a = row_fit ((y ∷ ys) ++ concat ps) (map group_of ((y ∷ ys) ∷ ps)) j a (rows_fit p (row_rest j a).rest)

groups_fit : (ps : List Pair) → Above 0 ps → Fit (fields (groups ps))
unfolding grouped
groups_fit ps a = rows_fit {lo = 0} (pieces_parted consecutive ps) (rw (concat-pieces consecutive ps) a)

-- no more groups than there are code points
above_few : {lo : ℕ} {ps : List Pair} → Above lo ps → lo ≤ suc unicode_max → lo + length ps ≤ suc unicode_max
above_few above_none h = omega arith
above_few (above_more {p} a b c r) h = omega (arith, above_few r (omega arith))

pub groups_few : (ps : List Pair) → Above 0 ps → length (groups ps) ≤ suc unicode_max
unfolding grouped
groups_few ps a = omega (arith, length-map group_of (pieces consecutive ps), length-pieces consecutive ps, above_few a (omega arith))

-- ---- the k-th group

-- its three numbers among all
record Three (vs : List ℕ) (j : ℕ) (g : Group) : Type 0 where
  start : get_or vs j 0 ≡ g.start
  end : get_or vs (suc j) 0 ≡ g.end
  glyph : get_or vs (suc (suc j)) 0 ≡ g.glyph

fields_at : (gs : List Group) (k : ℕ) (d : Group) → k < length gs → Three (fields gs) (3 * k) (get_or gs k d)
fields_at [] k d h = absurd (not-suc-le-zero h)
fields_at (g ∷ gs) zero d h = record { start = refl; end = refl; glyph = refl }
fields_at (g ∷ gs) (suc k) d h =
    let e : 3 * suc k ≡ suc (suc (suc (3 * k))) = omega arith in
    let t = fields_at gs k d (omega arith) in
    rw e (record { start = t.start; end = t.end; glyph = t.glyph })

abbrev pub group_at : List ℕ → ℕ → ℕ → Group
group_at xs at k = group (start_char_code xs at k) (end_char_code xs at k) (start_glyph_id xs at k)

module _ (format language : ℕ) (gs : List Group) where
  entry_at : (j at : ℕ) → at ≡ 16 + 4 * j → get_or (fields gs) j 0 < 256 ^ 4 → be 4 (group_table format language gs) at ≡ get_or (fields gs) j 0
  unfolding group_table
  entry_at j at e h =
      let hd = header12 format language (length gs) in
      let p : at ≡ length hd + 4 * j = omega (arith, e, length_header format language (length gs)) in
      rw p (be_back 4 hd (encs 4 (fields gs)) (4 * j) ∙ be-encs_fits 4 (fields gs) j h)

  table_group : Fit (fields gs) → (k : ℕ) (d : Group) → k < length gs → group_at (group_table format language gs) 0 k ≡ get_or gs k d
  table_group f k d h =
      let t = fields_at gs k d h in
      rw (
        entry_at (3 * k) (0 + 16 + 12 * k) (omega arith) (f.each (3 * k)) ∙ t.start,
        entry_at (suc (3 * k)) (0 + 20 + 12 * k) (omega arith) (f.each (suc (3 * k))) ∙ t.end,
        entry_at (suc (suc (3 * k))) (0 + 24 + 12 * k) (omega arith) (f.each (suc (suc (3 * k)))) ∙ t.glyph,
      )

pub format12_group : (language : ℕ) (ps : List Pair) → Above 0 ps → (k : ℕ) (d : Group) → k < length (groups ps) → group_at (format12 language ps) 0 k ≡ get_or (groups ps) k d
format12_group language ps a = table_group 12 language (groups ps) (groups_fit ps a)

-- ---- the header

module _ (format language n : ℕ) (rest : List ℕ) where
  pub header_format : format < 65536 → be 2 (header12 format language n ++ rest) 0 ≡ format
  unfolding header12
  header_format h =
      be_front 2 (encs 2 (format ∷ 0 ∷ []) ++ encs 4 (table_length n ∷ language ∷ n ∷ [])) rest 0 (rw (length-append (encs 2 (format ∷ 0 ∷ [])) (encs 4 (table_length n ∷ language ∷ n ∷ [])), length-encs 2 (format ∷ 0 ∷ [])) (omega arith))
      ∙ be_front 2 (encs 2 (format ∷ 0 ∷ [])) (encs 4 (table_length n ∷ language ∷ n ∷ [])) 0 (rw (length-encs 2 (format ∷ 0 ∷ [])) (omega arith))
      ∙ be-encs_fits 2 (format ∷ 0 ∷ []) 0 h

  pub header_number : (k at : ℕ) → k < 3 → at ≡ 4 + 4 * k → get_or (table_length n ∷ language ∷ n ∷ []) k 0 < 256 ^ 4
      → be 4 (header12 format language n ++ rest) at ≡ get_or (table_length n ∷ language ∷ n ∷ []) k 0
  unfolding header12
  header_number k at l e h =
      let ns = table_length n ∷ language ∷ n ∷ [] in
      let p : at ≡ length (encs 2 (format ∷ 0 ∷ [])) + 4 * k = omega (arith, e, length-encs 2 (format ∷ 0 ∷ [])) in
      be_front 4 (encs 2 (format ∷ 0 ∷ []) ++ encs 4 ns) rest at (rw (length-append (encs 2 (format ∷ 0 ∷ [])) (encs 4 ns), length-encs 2 (format ∷ 0 ∷ []), length-encs 4 ns) (omega (arith, e, l)))
      ∙ rw p (be_back 4 (encs 2 (format ∷ 0 ∷ [])) (encs 4 ns) (4 * k) ∙ be-encs_fits 4 ns k h)
