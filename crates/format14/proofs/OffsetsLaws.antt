-- Every offset leads to its table: the bytes of the subtable from there on begin with it.
use Prim.Native.Nat.{ℕ, ◌+◌, ◌*◌, ◌^◌, ◌<◌, ◌≤◌}
use mathlib.Core.Path.{◌≡◌, refl, sym, ap, ◌∙◌}
use mathlib.Core.List.{List, ◌++◌, append_assoc}
use mathlib.Core.Bool.{true, false}
use native.Mathlib.Omega.{arith}
use borrow.Author.Tests.{lt-ltb, le-leb}
use lib.ListN.{length, get_or, take, drop, length-append, length-drop}
use lib.Seq.{drop-append-add, take_all, get_or-take, get_or-drop}
use Rattle.laws.specs.Pieces.{concat}
use Rattle.laws.specs.Select.{flat}
use Rattle.laws.specs.Lasts.{among, before}
use Rattle.laws.proofs.ChoiceLaws.{by_leb}
use Rattle.laws.proofs.LastsLaws.{among-lasts, take-before}
use Rattle.laws.proofs.SelectLaws.{length-flat}
use Rattle.laws.proofs.StandsLaws.{Stands, stands_in}
use Rattle.number.specs.BigEndian.{be}
use Rattle.number.proofs.StandsLaws.{be_stands}
use Rattle.format14_uvs.specs.Tables.{counts}
use Rattle.format14.proofs.SlotsLaws.{there_some, there_none}
use Rattle.format14.specs.Format14.{Row, tables, written_tables, uvs_tables_start, uvs_offset, length_of14, row_bytes, header14, format14}
use Rattle.format14.proofs.WholeLaws.{length_head, row_size, length-format14}

drop_past : (a b : List ℕ) (n k : ℕ) → length a ≡ n → drop (n + k) (a ++ b) ≡ drop k b
drop_past a b n k e = rw (← e) (drop-append-add a b k)

front : (rs : List Row) → length (header14 rs ++ flat (row_bytes rs) rs) ≡ uvs_tables_start rs
front rs = rw (length-append, length_head rs, length-flat (row_bytes rs) 11 (row_size rs) rs)

pub offset_leads : (rs : List Row) (t : List ℕ) → among t (tables rs) ≡ true → 0 < length t → take (length t) (drop (uvs_offset rs t) (format14 rs)) ≡ t
unfolding format14 uvs_offset
offset_leads rs t e h =
    let ahead = header14 rs ++ flat (row_bytes rs) rs in
    let parts : header14 rs ++ (flat (row_bytes rs) rs ++ concat (written_tables rs)) ≡ ahead ++ concat (written_tables rs) = sym (append_assoc (header14 rs) (flat (row_bytes rs) rs) (concat (written_tables rs))) in
    rw (there_some t h, parts, drop_past ahead (concat (written_tables rs)) (uvs_tables_start rs) (before t (written_tables rs)) (front rs))
    (take-before t (written_tables rs) (among-lasts t (tables rs) ∙ e))

pub take_stands : (xs : List ℕ) (at : ℕ) (t : List ℕ) → take (length t) (drop at xs) ≡ t → 0 < length t → Stands xs at t
take_stands xs at t e z = record {
  inside = by_leb (at + length t ≤ length xs) (length t) (length (drop at xs))
      (λ h. omega (arith, rw length-drop at h))
      (λ h.
      let all = sym (take_all (length t) (drop at xs) (omega arith)) ∙ e in
      absurd (omega (arith, h, ap length all)));
  same = λ k h. sym (get_or-drop at xs k 0) ∙ sym (get_or-take (length t) (drop at xs) k 0 h) ∙ ap (λ l. get_or l k 0) e;
}

-- ---- a table of a row, wherever it is there

pub offset_some : (rs : List Row) (t : List ℕ) → 0 < length t → 10 ≤ uvs_offset rs t
unfolding uvs_offset
offset_some rs t z = rw (there_some t z) (omega arith)

pub offset_none : (rs : List Row) (t : List ℕ) → length t ≡ 0 → uvs_offset rs t ≡ 0
unfolding uvs_offset
offset_none rs t z = rw (there_none t z)

pub counts_none : (size : ℕ) (ys : List ℕ) (at len : ℕ) → counts size ys at len 0 ≡ false
unfolding counts
counts_none size ys at len = refl

module _ (rs : List Row) (t : List ℕ) (m : 0 < length t → among t (tables rs) ≡ true) where
  pub leads : 0 < length t → Stands (format14 rs) (uvs_offset rs t) t
  leads z = take_stands (format14 rs) (uvs_offset rs t) t (offset_leads rs t (m z) z) z

  pub offset_fits : length_of14 rs < 256 ^ 4 → uvs_offset rs t < 256 ^ 4
  offset_fits small =
      by_leb (uvs_offset rs t < 256 ^ 4) 1 (length t)
      (λ h. omega (arith, (leads h).inside, length-format14 rs))
      (λ h. rw (offset_none rs t (omega arith)) (omega arith))

  -- it counts where the subtable stands, if it has as many records of `size` bytes as its count says
  pub counts_here : (ys : List ℕ) (at : ℕ) → Stands ys at (format14 rs) → (size : ℕ) → 0 < length t → length t ≡ 4 + size * be 4 t 0 → counts size ys at (length_of14 rs) (uvs_offset rs t) ≡ true
  unfolding counts
  counts_here ys at st size z shape =
      let o = uvs_offset rs t in
      let inside = leads z in
      let count : be 4 ys (at + o) ≡ be 4 t 0 = be_stands (stands_in at o st inside) 4 0 (at + o) (omega arith) (omega (arith, shape)) in
      let end : o + 4 + size * be 4 t 0 ≤ length_of14 rs = omega (arith, inside.inside, length-format14 rs, shape) in
      rw (lt-ltb 0 o (omega (arith, offset_some rs t z)), le-leb (o + 4) (length_of14 rs) (omega (arith, end)), count, le-leb (o + 4 + size * be 4 t 0) (length_of14 rs) end)
