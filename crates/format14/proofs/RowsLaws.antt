-- The rows of the new subtable, read off the source's selector records one by one and off the distances of their tables.
use Prim.Native.Nat.{ℕ, zero, suc, ◌+◌, ◌-◌, ◌*◌, ◌/◌, ◌%◌, ◌<◌, ◌≤◌}
use mathlib.Core.Path.{◌≡◌, refl, sym, ap, ◌∙◌}
use mathlib.Core.List.{List, [], ◌∷◌, ◌++◌, map}
use mathlib.Core.Bool.{true}
use native.Mathlib.Omega.{arith}
use lib.Dec.{ltb}
use lib.ListN.{length, get_or}
use borrow.Author.Tests.{eq-eqb, ne_eqb, lt-ltb, le-ltb}
use Rattle.laws.specs.Choice.{pick, both, either}
use Rattle.laws.specs.Select.{each, select, flat}
use Rattle.laws.specs.Lasts.{lasts, behind}
use Rattle.laws.proofs.ChoiceLaws.{by_leb, both_left, by_test}
use Rattle.laws.proofs.FlatLaws.{flat_map, flat-select}
use Rattle.laws.proofs.LengthLaws.{length-map}
use Rattle.laws.proofs.EitherLaws.{neither_left, neither_right}
use Rattle.format14.specs.Format14.{Row, row_of, rows_of, rows, used, tables, written_tables, uvs_offset, row_bytes, length_of14}
use Rattle.format14.specs.Ends.{from, written_from, Ends}
use Rattle.format14.specs.Selectors.{Job14, keeps_selector, default_table, non_default_table, selector_records, there, one}
use Rattle.format14.specs.ByNumber.{slot}
use Rattle.format14.specs.SelectorRecords.{used_at, used_records, offset_for, selector_bytes, record_at}
use Rattle.format14.proofs.SlotsLaws.{there_some, there_none, behind_missing, behind_there, before_there}

-- a row with neither table has none to give
tables-used : (r : Row) (rs : List Row) → tables (pick (used r) (r ∷ rs) rs) ≡ one r.default_uvs ++ (one r.non_default_uvs ++ tables rs)
unfolding tables used
tables-used r rs =
    by_test (tables (pick (used r) (r ∷ rs) rs) ≡ one r.default_uvs ++ (one r.non_default_uvs ++ tables rs)) (used r)
    (λ e. ap (λ u. tables (pick u (r ∷ rs) rs)) e)
    (λ e. ap (λ u. tables (pick u (r ∷ rs) rs)) e ∙ rw (neither_left (there r.default_uvs) (there r.non_default_uvs) e, neither_right (there r.default_uvs) (there r.non_default_uvs) e))

module _ (g : Job14) where
  pub slot_even : (k : ℕ) → slot g (2 * k) ≡ pick (keeps_selector g k) (default_table g k) []
  unfolding slot
  slot_even k =
      let half : 2 * k / 2 ≡ k = omega arith in
      let even : 2 * k % 2 ≡ 0 = omega arith in
      rw (half, even)

  pub slot_odd : (k : ℕ) → slot g (2 * k + 1) ≡ pick (keeps_selector g k) (non_default_table g k) []
  unfolding slot
  slot_odd k =
      let half : (2 * k + 1) / 2 ≡ k = omega arith in
      let odd : (2 * k + 1) % 2 ≡ 1 = omega arith in
      rw (half, odd)

  from_pair : (n k : ℕ) → from (slot g) (2 * suc n) (2 * k) ≡ one (slot g (2 * k)) ++ (one (slot g (2 * k + 1)) ++ from (slot g) (2 * n) (2 * (k + 1)))
  unfolding from
  from_pair n k =
      let two : 2 * suc n ≡ suc (suc (2 * n)) = omega arith in
      let next : 2 * k + 1 + 1 ≡ 2 * (k + 1) = omega arith in
      rw (two, ← next)

  -- the tables of the rows are those of the selector records by number
  pub tables_rows : (n k : ℕ) → tables (rows_of g n k) ≡ from (slot g) (2 * n) (2 * k)
  unfolding tables select each from
  tables_rows zero k = refl
  tables_rows (suc n) k =
      rw (from_pair n k, slot_even k, slot_odd k, ← tables_rows n (k + 1))
      (by_test (tables (rows_of g (suc n) k) ≡ one (pick (keeps_selector g k) (default_table g k) []) ++ (one (pick (keeps_selector g k) (non_default_table g k) []) ++ tables (rows_of g n (k + 1)))) (keeps_selector g k)
      (λ e. rw e (tables-used (row_of g k) (rows_of g n (k + 1))))
      (λ e. rw e))

  -- ---- by the distances of the tables

  module _ (n : ℕ) (ends : List ℕ) (e : Ends (slot g) (2 * n) ends) where
    -- a table is there exactly where its distance is not 0
    end_there : (t : ℕ) → t < 2 * n → there (slot g t) ≡ ltb 0 (get_or ends t 0)
    end_there t l =
        by_leb (there (slot g t) ≡ ltb 0 (get_or ends t 0)) 1 (length (slot g t))
        (λ h. there_some (slot g t) h ∙ sym (lt-ltb 0 (get_or ends t 0) (rw (e.each t l) (omega (arith, behind_there (slot g) (2 * n) t l)))))
        (λ h.
        let z : length (slot g t) ≡ 0 = omega arith in
        there_none (slot g t) z ∙ sym (le-ltb 0 (get_or ends t 0) (rw (e.each t l) (omega (arith, behind_missing (slot g) (2 * n) t z)))))

    pub used_at_lem : (k : ℕ) → k < n → used_at ends k ≡ both (keeps_selector g k) (used (row_of g k))
    unfolding used_at used
    used_at_lem k l =
        let a = end_there (2 * k) (omega arith) in
        let b = end_there (2 * k + 1) (omega arith) in
        rw (← a, ← b, slot_even k, slot_odd k)
        (by_test (either (there (pick (keeps_selector g k) (default_table g k) [])) (there (pick (keeps_selector g k) (non_default_table g k) []))
        ≡ both (keeps_selector g k) (either (there (default_table g k)) (there (non_default_table g k)))) (keeps_selector g k)
        (λ q. rw q)
        (λ q. rw q))

    used_rows : (m k : ℕ) → k + m ≤ n → map (row_of g) (select (used_at ends) (each (λ i. i) m k)) ≡ rows_of g m k
    unfolding select each
    used_rows zero k h = refl
    used_rows (suc m) k h =
        let r = used_rows m (k + 1) (omega arith) in
        let u = used_at_lem k (omega arith) in
        by_test (map (row_of g) (select (used_at ends) (each (λ i. i) (suc m) k)) ≡ rows_of g (suc m) k) (keeps_selector g k)
        (λ p. by_test (map (row_of g) (select (used_at ends) (each (λ i. i) (suc m) k)) ≡ rows_of g (suc m) k) (used (row_of g k))
        (λ q. rw (u, p, q) (ap (λ l. row_of g k ∷ l) r))
        (λ q. rw (u, p, q) r))
        (λ p. rw (u, p) r)

  -- ---- the whole subtable

  pub written_rows : written_tables (rows g) ≡ written_from (slot g) (2 * selector_records g) 0
  written_rows =
      let z : 2 * selector_records g - 0 ≡ 2 * selector_records g = omega arith in
      rw z (ap lasts (tables_rows (selector_records g) 0))

  module _ (ends : List ℕ) (e : Ends (slot g) (2 * selector_records g) ends) where
    rows_are : map (row_of g) (used_records ends (selector_records g)) ≡ rows g
    rows_are = used_rows (selector_records g) ends e (selector_records g) 0 (omega arith)

    pub length-rows : length (used_records ends (selector_records g)) ≡ length (rows g)
    length-rows = sym (length-map (row_of g) (used_records ends (selector_records g))) ∙ ap length rows_are

    offset_slot : (t : ℕ) → t < 2 * selector_records g → offset_for (length_of14 (rows g)) (get_or ends t 0) ≡ uvs_offset (rows g) (slot g t)
    unfolding offset_for uvs_offset
    offset_slot t l =
        let m = 2 * selector_records g in
        by_leb (offset_for (length_of14 (rows g)) (get_or ends t 0) ≡ uvs_offset (rows g) (slot g t)) 1 (length (slot g t))
        (λ h.
        let far = behind_there (slot g) m t l in
        let sum = before_there (slot g) m t l h in
        rw (there_some (slot g t) h, e.each t l, written_rows, ne_eqb (behind (slot g t) (written_from (slot g) m 0)) 0 (λ d. omega arith)) (omega arith))
        (λ h.
        let none : length (slot g t) ≡ 0 = omega arith in
        rw (there_none (slot g t) none, e.each t l, eq-eqb (behind (slot g t) (written_from (slot g) m 0)) 0 (behind_missing (slot g) m t none)))

    row_bytes_lem : (k : ℕ) → k < selector_records g → used_at ends k ≡ true
        → record_at g.source g.start (length_of14 (rows g)) ends k ≡ row_bytes (rows g) (row_of g k)
    unfolding record_at selector_bytes
    row_bytes_lem k l u =
        let keeps = both_left (keeps_selector g k) (used (row_of g k)) (sym (used_at_lem (selector_records g) ends e k l) ∙ u) in
        let first = slot_even k in
        let second = slot_odd k in
        rw (offset_slot (2 * k) (omega arith), offset_slot (2 * k + 1) (omega arith), first, second, keeps)

    pub flat_rows : flat (record_at g.source g.start (length_of14 (rows g)) ends) (used_records ends (selector_records g)) ≡ flat (row_bytes (rows g)) (rows g)
    flat_rows =
        flat-select (record_at g.source g.start (length_of14 (rows g)) ends) (λ k. row_bytes (rows g) (row_of g k)) (used_at ends) (selector_records g) 0 (λ k a b u. row_bytes_lem k (omega arith) u)
        ∙ sym (flat_map (row_bytes (rows g)) (row_of g) (used_records ends (selector_records g)))
        ∙ ap (flat (row_bytes (rows g))) rows_are
