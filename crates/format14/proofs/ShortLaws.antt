-- How long a new format 14 subtable can be.
use Prim.Native.Nat.{ℕ, zero, suc, ◌+◌, ◌-◌, ◌*◌, ◌/◌, ◌%◌, ◌≤◌, ◌<◌}
use mathlib.Core.List.{List, [], map}
use native.Mathlib.Omega.{arith}
use lib.Dec.{eqb}
use lib.ListN.{length}
use Rattle.laws.specs.Choice.{pick}
use Rattle.laws.specs.Pieces.{concat}
use Rattle.laws.specs.Select.{each}
use Rattle.laws.proofs.ChoiceLaws.{by_pick, by_leb}
use Rattle.laws.proofs.LastsLaws.{length-concat, length-lasts}
use Rattle.laws.proofs.LengthLaws.{length-each, length-map, length-select}
use Rattle.format14_uvs.specs.Tables.{counts_default, counts_non_default}
use Rattle.format14_uvs.specs.Default.{new_default}
use Rattle.format14_uvs.specs.NonDefault.{new_non_default}
use Rattle.format14.specs.Selectors.{Job14, selector_records, default_offset, non_default_offset, keeps_selector, kept_records, default_table, non_default_table}
use Rattle.format14.specs.ByNumber.{slot, table_max}
use Rattle.format14.proofs.ShapeLaws.{length_default, length_non_default}
use Rattle.format14.proofs.ByNumberLaws.{counts_fits}
use Rattle.format14.specs.Ends.{from}
use Rattle.format14.proofs.SlotsLaws.{from_missing, from_there}
use Rattle.format14.specs.Format14.{row_of, used, rows, written_tables, length_of14}
use Rattle.format14.proofs.RowsLaws.{written_rows}

-- ---- tables by number, none longer than table_max

length_from : (f : ℕ → List ℕ) → ((i : ℕ) → length (f i) ≤ table_max) → (n i : ℕ) → length (concat (from f n i)) ≤ table_max * n
unfolding from concat
length_from f h zero i = omega arith
length_from f h (suc n) i =
    let r = length_from f h n (i + 1) in
    by_leb (length (concat (from f (suc n) i)) ≤ table_max * suc n) 1 (length (f i))
    (λ p. rw (from_there f n i p) (omega (arith, length-concat (f i) (from f n (i + 1)), h i)))
    (λ p. rw (from_missing f n i (omega arith)) (omega arith))

-- ---- of a source and lists within the limits

pub record Modest (g : Job14) : Type 0 where
  pub few : selector_records g ≤ 512
  pub short : g.size ≤ 1048576
  pub kept_few : length g.kept ≤ 131072

module _ (g : Job14) (m : Modest g) where
  default_short : (k : ℕ) → length (default_table g k) ≤ table_max
  unfolding default_table
  default_short k =
      by_pick (λ (t : List ℕ). length t ≤ table_max) (counts_default g.source g.start g.size (default_offset g k))
      (new_default g.source (g.start + default_offset g k) g.kept) []
      (λ e. omega (arith, length_default g.source (g.start + default_offset g k) g.kept, m.kept_few))
      (λ e. omega arith)

  non_default_short : (k : ℕ) → length (non_default_table g k) ≤ table_max
  unfolding non_default_table
  non_default_short k =
      by_pick (λ (t : List ℕ). length t ≤ table_max) (counts_non_default g.source g.start g.size (non_default_offset g k))
      (new_non_default g.source (g.start + non_default_offset g k) g.kept g.glyphs g.requested) []
      (λ e.
      let fits = (counts_fits 5 g.source g.start g.size (non_default_offset g k) e).1.1 in
      omega (arith, length_non_default g.source (g.start + non_default_offset g k) g.kept g.glyphs g.requested, fits, m.short))
      (λ e. omega arith)

  slot_short : (t : ℕ) → length (slot g t) ≤ table_max
  unfolding slot
  slot_short t =
      by_pick (λ (s : List ℕ). length s ≤ table_max) (keeps_selector g (t / 2)) (pick (eqb (t % 2) 0) (default_table g (t / 2)) (non_default_table g (t / 2))) []
      (λ e. by_pick (λ (s : List ℕ). length s ≤ table_max) (eqb (t % 2) 0) (default_table g (t / 2)) (non_default_table g (t / 2)) (λ _. default_short (t / 2)) (λ _. non_default_short (t / 2)))
      (λ e. omega arith)

  pub rows_few : length (rows g) ≤ 512
  rows_few =
      omega (
        arith,
        length-select used (map (row_of g) (kept_records g (selector_records g) 0)),
        length-map (row_of g) (kept_records g (selector_records g) 0),
        length-select (keeps_selector g) (each (λ i. i) (selector_records g) 0),
        length-each (λ i. i) (selector_records g) 0,
        m.few,
      )

  tables_short : length (concat (written_tables (rows g))) ≤ 1073741824
  tables_short =
      let all = length-lasts (from (slot g) (2 * selector_records g - 0) 0) in
      let each = length_from (slot g) slot_short (2 * selector_records g - 0) 0 in
      rw (written_rows g) (omega (arith, all, each, m.few))

  pub rows_short : length_of14 (rows g) < 2147483648
  rows_short = omega (arith, rows_few, tables_short)
