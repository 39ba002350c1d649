-- The numbers of a written format 4 subtable, read back from its bytes column by column.
use Prim.Native.Nat.{ℕ, suc, ◌+◌, ◌*◌, ◌<◌}
use mathlib.Core.Path.{◌≡◌, refl, ap, ◌∙◌}
use mathlib.Core.List.{List, [], ◌∷◌, ◌++◌, map}
use native.Mathlib.Nat.{add-zero}
use native.Mathlib.Omega.{arith}
use lib.Dec.{eqb}
use lib.ListN.{length, get_or, length-map, get_or-append}
use lib.Seq.{get_or-append-add}
use Rattle.laws.specs.Lists.{Pair}
use Rattle.laws.specs.Linked.{Each}
use Rattle.laws.proofs.ChoiceLaws.{by_pick}
use Rattle.laws.proofs.EachLaws.{each_at, each_of, each_map}
use Rattle.number.specs.BigEndian.{be}
use Rattle.number.specs.Row.{encs}
use Rattle.number.proofs.RowLaws.{be-encs_fits}
use Rattle.format4_cutting.specs.declared.Segment.{Segment}
use Rattle.format4_cutting.specs.Steps.{entries}
use Rattle.format4_cutting.specs.Cutting.{segments, glyph_array, entries_of}
use Rattle.source.specs.Fields.{end_code, start_code, id_delta, id_range_offset, glyph_id_array}
use Rattle.format4.specs.Format4.{offsets_from, header4, end_of, start_of, delta_of, numbers, format4}
use Rattle.format4.proofs.Format4Laws.{length_offsets}
use Rattle.format4_lookup.proofs.FitsLaws.{SegmentFits, Low}

-- ---- the subtable's numbers are those of the cutting

pub format4-numbers : (language : ℕ) (ps : List Pair) → format4 language ps ≡ encs 2 (numbers language (segments ps) (glyph_array ps))
unfolding format4
format4-numbers language ps = refl

-- ---- a row of numbers

-- f gives the numbers of a row from i on
abbrev pub Row : (ℕ → ℕ) → ℕ → List ℕ → Type 0
Row f i [] = Unit {0}
Row f i (v ∷ vs) = (f i ≡ v) × Row f (suc i) vs

row_of : (f : ℕ → ℕ) (i : ℕ) (vs : List ℕ) → ((k : ℕ) → k < length vs → f (i + k) ≡ get_or vs k 0) → Row f i vs
row_of f i [] h = tt
row_of f i (v ∷ vs) h = (rw (add-zero i) at (h 0 (omega arith)), row_of f (suc i) vs (λ k l. ap f (omega arith) ∙ h (suc k) (omega arith)))

-- ---- the columns

-- the bytes xs hold these segments, from number i of s on, and their range offsets, where `before` entries of the array are passed
pub record Held (xs : List ℕ) (s i before : ℕ) (ss : List Segment) : Type 0 where
  pub ends : Row (end_code xs 0) i (map end_of ss)
  pub starts : Row (start_code xs 0 s) i (map start_of ss)
  pub deltas : Row (id_delta xs 0 s) i (map delta_of ss)
  pub offsets : Row (id_range_offset xs 0 s) i (offsets_from before ss)

-- an offset leads no further than the array's end
offsets_low : (before m : ℕ) (ss : List Segment) → 2 * length ss + 2 * (before + entries ss) < m → Each (λ (n : ℕ). n < m) (offsets_from before ss)
unfolding offsets_from
offsets_low before m [] h = tt
offsets_low before m (x ∷ xs) h =
    (by_pick (λ (n : ℕ). n < m) (eqb x.delta 0) (2 * length (x ∷ xs) + 2 * before) 0 (λ _. omega arith) (λ _. omega arith), offsets_low (before + entries_of x) m xs (omega arith))

module _ (language : ℕ) (ss : List Segment) (array : List ℕ) where
  abbrev N : List ℕ
  N = numbers language ss array

  abbrev T : List ℕ
  T = encs 2 N

  abbrev S : ℕ
  S = length ss

  pub number_at : (at k v : ℕ) → at ≡ 2 * k → get_or N k 0 ≡ v → v < 65536 → be 2 T at ≡ v
  number_at at k v p e h = rw p (be-encs_fits 2 N k (rw e h) ∙ e)

  -- what follows the ends and the zero, the starts, and the deltas
  abbrev from_offsets : List ℕ
  from_offsets = offsets_from 0 ss ++ array

  abbrev from_deltas : List ℕ
  from_deltas = map delta_of ss ++ from_offsets

  abbrev from_starts : List ℕ
  from_starts = map start_of ss ++ from_deltas

  abbrev from_ends : List ℕ
  from_ends = map end_of ss ++ (0 ∷ from_starts)

  at_seam : (xs ys : List ℕ) (n k : ℕ) → k ≡ length xs + n → get_or (xs ++ ys) k 0 ≡ get_or ys n 0
  at_seam xs ys n k e = rw e (get_or-append-add xs ys n 0)

  ends_from : (k : ℕ) → get_or N (7 + k) 0 ≡ get_or from_ends k 0
  unfolding header4
  ends_from k = at_seam (header4 language S (length array)) from_ends k (7 + k) refl

  starts_from : (k : ℕ) → get_or N (8 + S + k) 0 ≡ get_or from_starts k 0
  starts_from k =
      ap (λ (n : ℕ). get_or N n 0) (omega arith) ∙ ends_from (S + suc k)
      ∙ at_seam (map end_of ss) (0 ∷ from_starts) (suc k) (S + suc k) (omega (arith, length-map ss end_of))

  deltas_from : (k : ℕ) → get_or N (8 + 2 * S + k) 0 ≡ get_or from_deltas k 0
  deltas_from k =
      ap (λ (n : ℕ). get_or N n 0) (omega arith) ∙ starts_from (S + k)
      ∙ at_seam (map start_of ss) from_deltas k (S + k) (omega (arith, length-map ss start_of))

  offsets_from_lem : (k : ℕ) → get_or N (8 + 3 * S + k) 0 ≡ get_or from_offsets k 0
  offsets_from_lem k =
      ap (λ (n : ℕ). get_or N n 0) (omega arith) ∙ deltas_from (S + k)
      ∙ at_seam (map delta_of ss) from_offsets k (S + k) (omega (arith, length-map ss delta_of))

  array_at : (k : ℕ) → get_or N (8 + 4 * S + k) 0 ≡ get_or array k 0
  array_at k =
      ap (λ (n : ℕ). get_or N n 0) (omega arith) ∙ offsets_from_lem (S + k)
      ∙ at_seam (offsets_from 0 ss) array k (S + k) (omega (arith, length_offsets 0 ss))

  -- a column vs that begins with number p
  column : (f : ℕ → ℕ) (p : ℕ) (vs ws : List ℕ) → ((k : ℕ) → f k ≡ be 2 T (2 * (p + k))) → ((k : ℕ) → get_or N (p + k) 0 ≡ get_or (vs ++ ws) k 0) → Each Low vs → Row f 0 vs
  column f p vs ws a b l =
      row_of f 0 vs
      (λ k h. ap f (omega arith) ∙ a k
      ∙ number_at (2 * (p + k)) (p + k) (get_or vs k 0) refl (b k ∙ get_or-append vs ws 0 k h) (each_at Low 0 vs (omega arith) l k))

  pub entries_at : Each Low array → (k : ℕ) → glyph_id_array T 0 S k ≡ get_or array k 0
  entries_at l k = number_at (0 + 16 + 8 * S + 2 * k) (8 + 4 * S + k) (get_or array k 0) (omega arith) (array_at k) (each_at Low 0 array (omega arith) l k)

  pub columns_held : Each SegmentFits ss → 2 * length ss + 2 * entries ss < 65536 → Held T S 0 0 ss
  columns_held l h = record {
    ends = column (end_code T 0) 7 (map end_of ss) (0 ∷ from_starts) (λ k. ap (be 2 T) (omega arith)) ends_from (field_low end_of (λ x f. f.end));
    starts = column (start_code T 0 S) (8 + S) (map start_of ss) from_deltas (λ k. ap (be 2 T) (omega arith)) starts_from (field_low start_of (λ x f. f.start));
    deltas = column (id_delta T 0 S) (8 + 2 * S) (map delta_of ss) from_offsets (λ k. ap (be 2 T) (omega arith)) deltas_from (field_low delta_of (λ x f. f.delta));
    offsets = column (id_range_offset T 0 S) (8 + 3 * S) (offsets_from 0 ss) array (λ k. ap (be 2 T) (omega arith)) offsets_from_lem (offsets_low 0 65536 ss (omega arith));
  }
    where
      field_low : (field : Segment → ℕ) → ((x : Segment) → SegmentFits x → field x < 65536) → Each Low (map field ss)
      field_low field f = each_map Low field ss (each_of SegmentFits (λ (x : Segment). field x < 65536) f ss l)
