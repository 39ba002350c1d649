-- Read back from the bytes of the new subtable, wherever it stands, a code point is covered by the default tables of a kept selector exactly where it is
-- kept and the source's subtable covers it with that selector.
use Prim.Native.Nat.{ℕ, zero, suc, ◌+◌, ◌*◌, ◌^◌, ◌<◌}
use mathlib.Core.Path.{◌≡◌, refl, sym, ap, ◌∙◌}
use mathlib.Core.List.{List, [], ◌∷◌, ◌++◌, append_assoc, map}
use mathlib.Core.Bool.{Bool, true, false}
use native.Mathlib.Omega.{arith}
use lib.Dec.{eqb}
use lib.ListN.{length, get_or, length-append}
use Rattle.laws.specs.Choice.{both, either}
use Rattle.laws.specs.Linked.{Each}
use Rattle.laws.specs.Select.{each, select, any_of}
use Rattle.laws.specs.Lasts.{among}
use Rattle.laws.proofs.ChoiceLaws.{by_leb, by_pick, false-true, by_test}
use Rattle.laws.proofs.EachLaws.{each_right, each_map}
use Rattle.laws.proofs.EitherLaws.{neither_left}
use Rattle.laws.proofs.EqListLaws.{eq_refl}
use Rattle.laws.proofs.LastsLaws.{among_here}
use Rattle.laws.proofs.StandsLaws.{Stands, stands_in}
use Rattle.lists_marks.specs.Marks.{holds}
use Rattle.number.specs.BigEndian.{be, enc, Bytes}
use Rattle.number.proofs.BigEndianLaws.{be_lt, be_front, be_back, be-enc_fits, length-enc}
use Rattle.number.proofs.StandsLaws.{be_stands}
use Rattle.format14_uvs.specs.Tables.{counts_default}
use Rattle.format14_uvs.specs.Default.{covered_by, new_default}
use Rattle.format14_uvs.proofs.ReadLaws.{each_row, each_select}
use Rattle.format14.proofs.CoversLaws.{none_covers, stands_covers, bytes_cover}
use Rattle.format14.specs.Selectors.{Job14, selector_records, selector_of, default_offset, keeps_selector, default_table, non_default_table, kept_records, there, one}
use Rattle.format14.proofs.ShapeLaws.{default_shape}
use Rattle.format14.specs.Format14.{Row, row_of, rows_of, rows, used, tables, uvs_offset, length_of14, format14}
use Rattle.format14.specs.Variants.{record_covers, defaults}
use Rattle.format14.proofs.OffsetsLaws.{leads, offset_none, offset_fits, counts_here, counts_none}
use Rattle.format14.proofs.SlotsLaws.{there_some, nil_eq}
use Rattle.format14.proofs.VariantsLaws.{among_right, read_count, row_here, read_selector, apart}
use Rattle.format14.proofs.WholeLaws.{row_size}

-- a row's own answers, asked by its place
any_place : (f q : ℕ → Bool) (w p : Row → Bool) (front back : List Row)
    → ((us : List Row) (r : Row) (vs : List Row) → front ++ back ≡ us ++ (r ∷ vs) → (f (length us) ≡ w r) × (q (length us) ≡ p r))
    → any_of f (select q (each (λ k. k) (length back) (length front))) ≡ any_of w (select p back)
unfolding any_of select each
any_place f q w p front [] h = refl
any_place f q w p front (r ∷ back) h =
    let here = h front r back refl in
    let on : front ++ (r ∷ back) ≡ (front ++ (r ∷ [])) ++ back = sym (append_assoc front (r ∷ []) back) in
    let next : length (front ++ (r ∷ [])) ≡ length front + 1 = length-append front (r ∷ []) in
    let ih = rw next at (any_place f q w p (front ++ (r ∷ [])) back (λ us s vs e. h us s vs (on ∙ e))) in
    by_test (any_of f (select q (each (λ k. k) (length (r ∷ back)) (length front))) ≡ any_of w (select p (r ∷ back))) (p r)
    (λ e. rw (here.1, e, here.0) (ap (either (w r)) ih))
    (λ e. rw (here.1, e) ih)

-- ---- rows read back

-- a row whose selector has three bytes, and whose default table has as many ranges as its count says and is read as it is where it stands
pub record Plain (r : Row) : Type 0 where
  pub fits : r.selector < 256 ^ 3
  pub shape : 0 < length r.default_uvs → length r.default_uvs ≡ 4 + 4 * be 4 r.default_uvs 0
  pub reads : (ys : List ℕ) (q : ℕ) → Stands ys q r.default_uvs → 0 < length r.default_uvs → (c : ℕ) → covered_by ys q c ≡ covered_by r.default_uvs 0 c

module _ (rs : List Row) (ys : List ℕ) (at : ℕ) (st : Stands ys at (format14 rs)) (small : length_of14 rs < 256 ^ 4) where
  module _ (us : List Row) (r : Row) (vs : List Row) (e : rs ≡ us ++ (r ∷ vs)) where
    abbrev t : List ℕ
    t = r.default_uvs

    among_row : 0 < length t → among t (tables rs) ≡ true
    unfolding tables
    among_row z = rw e (on us)
      where
        on : (us : List Row) → among t (tables (us ++ (r ∷ vs))) ≡ true
        on [] = rw (there_some t z) (among_here t t (one r.non_default_uvs ++ tables vs) (eq_refl t))
        on (u ∷ us) = among_right t (one u.default_uvs) (one u.non_default_uvs ++ tables (us ++ (r ∷ vs))) (among_right t (one u.non_default_uvs) (tables (us ++ (r ∷ vs))) (on us))

    read_offset : be 4 ys (at + 10 + 11 * length us + 3) ≡ uvs_offset rs t
    read_offset =
        let a = enc 3 r.selector in
        let b = enc 4 (uvs_offset rs t) in
        let d = enc 4 (uvs_offset rs r.non_default_uvs) in
        let three : length a + 0 ≡ 3 = rw (length-enc 3 r.selector) in
        let four = length-enc 4 (uvs_offset rs t) in
        be_stands (row_here rs ys at st small us r vs e) 4 3 (at + 10 + 11 * length us + 3) (omega arith) (rw (row_size rs r) (omega arith))
        ∙ rw three at (be_back 4 a (b ++ d) 0)
        ∙ be_front 4 b d 0 (omega (arith, four))
        ∙ be-enc_fits 4 (uvs_offset rs t) (offset_fits rs t among_row small)

    read_covers : Plain r → (c : ℕ) → record_covers ys at (length_of14 rs) c (length us) ≡ covered_by t 0 c
    unfolding record_covers
    read_covers g c =
        let o = uvs_offset rs t in
        rw read_offset (by_leb (both (counts_default ys at (length_of14 rs) o) (covered_by ys (at + o) c) ≡ covered_by t 0 c) 1 (length t)
        (λ h.
        let here = stands_in at o st (leads rs t among_row h) in
        rw (counts_here rs t among_row ys at st 4 h (g.shape h)) (g.reads ys (at + o) here h c))
        (λ h.
        let none : length t ≡ 0 = omega arith in
        rw (offset_none rs t none, counts_none 4 ys at (length_of14 rs), nil_eq t none) (sym (none_covers c))))

  rows_read : Each Plain rs → (v c : ℕ) → defaults ys at (length_of14 rs) v c ≡ any_of (λ r. covered_by r.default_uvs 0 c) (select (λ r. eqb r.selector v) rs)
  rows_read plain v c =
      rw (read_count rs ys at st small) (any_place (record_covers ys at (length_of14 rs) c) (λ k. eqb (be 3 ys (at + 10 + 11 * k)) v)
      (λ r. covered_by r.default_uvs 0 c) (λ r. eqb r.selector v) [] rs
      (λ us r vs e.
      let g = (each_right Plain us (r ∷ vs) (rw e at plain)).0 in
      (read_covers us r vs e g c, ap (λ s. eqb s v) (read_selector rs ys at st small us r vs e g.fits))))

-- ---- the rows of the source's records

module _ (g : Job14) (v c : ℕ) where
  abbrev given : ℕ → Bool
  given k = covered_by (default_table g k) 0 c

  abbrev selected : ℕ → Bool
  selected k = eqb (selector_of g k) v

  abbrev in_rows : List Row → Bool
  in_rows rs = any_of (λ r. covered_by r.default_uvs 0 c) (select (λ r. eqb r.selector v) rs)

  -- a row that is left out covers nothing
  unused_none : (k : ℕ) → used (row_of g k) ≡ false → given k ≡ false
  unfolding used
  unused_none k e =
      let no = neither_left (there (default_table g k)) (there (non_default_table g k)) e in
      by_leb (given k ≡ false) 1 (length (default_table g k))
      (λ h. absurd (false-true (sym no ∙ there_some (default_table g k) h)))
      (λ h. rw (nil_eq (default_table g k) (omega arith)) (none_covers c))

  kept_rows : holds g.kept v ≡ true → (n k : ℕ) → in_rows (rows_of g n k) ≡ any_of given (select selected (each (λ i. i) n k))
  unfolding any_of select each
  kept_rows h zero k = refl
  kept_rows h (suc n) k =
      let ih = kept_rows h n (k + 1) in
      by_test (in_rows (rows_of g (suc n) k) ≡ any_of given (select selected (each (λ i. i) (suc n) k))) (keeps_selector g k)
      (λ p. by_test (in_rows (rows_of g (suc n) k) ≡ any_of given (select selected (each (λ i. i) (suc n) k))) (used (row_of g k))
      (λ q. by_test (in_rows (rows_of g (suc n) k) ≡ any_of given (select selected (each (λ i. i) (suc n) k))) (selected k)
      (λ s. rw (p, q, s) (ap (either (given k)) ih))
      (λ s. rw (p, q, s) ih))
      (λ q. by_test (in_rows (rows_of g (suc n) k) ≡ any_of given (select selected (each (λ i. i) (suc n) k))) (selected k)
      (λ s. rw (p, q, s, unused_none k q) ih)
      (λ s. rw (p, q, s) ih)))
      (λ p. rw (p, apart g v c k (λ e. false-true (sym p ∙ e ∙ h))) ih)

  -- another selector covers nothing
  dropped_rows : holds g.kept v ≡ false → (n k : ℕ) → in_rows (rows_of g n k) ≡ false
  unfolding any_of select each
  dropped_rows h zero k = refl
  dropped_rows h (suc n) k =
      let ih = dropped_rows h n (k + 1) in
      by_test (in_rows (rows_of g (suc n) k) ≡ false) (keeps_selector g k)
      (λ p. by_test (in_rows (rows_of g (suc n) k) ≡ false) (used (row_of g k))
      (λ q. rw (p, q, apart g v c k (λ e. false-true (sym h ∙ sym e ∙ p))) ih)
      (λ q. rw (p, q) ih))
      (λ p. rw p ih)

-- ---- the new tables

both_none : (a : Bool) → both a false ≡ false
both_none true = refl
both_none false = refl

both-either : (a x y : Bool) → either (both a x) (both a y) ≡ both a (either x y)
both-either true x y = refl
both-either false x y = refl

any_both : (a : Bool) (f : ℕ → Bool) (ks : List ℕ) → any_of (λ k. both a (f k)) ks ≡ both a (any_of f ks)
unfolding any_of
any_both a f [] = sym (both_none a)
any_both a f (k ∷ ks) = rw (any_both a f ks) (both-either a (f k) (any_of f ks))

any_same : (f h : ℕ → Bool) → ((k : ℕ) → f k ≡ h k) → (ks : List ℕ) → any_of f ks ≡ any_of h ks
unfolding any_of
any_same f h e [] = refl
any_same f h e (k ∷ ks) = rw (e k, any_same f h e ks)

-- the source is bytes, and the kept points are of three bytes and few
module _ (g : Job14) (bytes : Bytes g.source) (low : (i : ℕ) → get_or g.kept i 0 < 256 ^ 3) (few : length g.kept < 256 ^ 4) where
  abbrev place : ℕ → ℕ
  place k = g.start + default_offset g k

  abbrev is_counted : ℕ → Bool
  is_counted k = counts_default g.source g.start g.size (default_offset g k)

  abbrev new : ℕ → List ℕ
  new k = new_default g.source (place k) g.kept

  new_plain : (k : ℕ) → Plain (row_of g k)
  unfolding default_table
  new_plain k = record {
    fits = be_lt 3 g.source (g.start + 10 + 11 * k) bytes;
    shape = by_pick (λ (t : List ℕ). 0 < length t → length t ≡ 4 + 4 * be 4 t 0) (is_counted k) (new k) []
        (λ e z. default_shape g.source (place k) g.kept few z)
        (λ e z. absurd (omega arith));
    reads = by_pick (λ (t : List ℕ). (ys : List ℕ) (q : ℕ) → Stands ys q t → 0 < length t → (c : ℕ) → covered_by ys q c ≡ covered_by t 0 c) (is_counted k) (new k) []
        (λ e ys q st z c. stands_covers g.source (place k) g.kept low few ys q st z c ∙ sym (bytes_cover g.source (place k) g.kept low few c))
        (λ e ys q st z c. absurd (omega arith));
  }

  all_plain : (n k : ℕ) → Each Plain (rows_of g n k)
  all_plain n k =
      each_select Plain used (map (row_of g) (kept_records g n k))
      (each_map Plain (row_of g) (kept_records g n k) (each_select (λ i. Plain (row_of g i)) (keeps_selector g) (each (λ i. i) n k) (each_row (λ i. Plain (row_of g i)) (λ i. i) new_plain n k)))

  table_covers : (c k : ℕ) → covered_by (default_table g k) 0 c ≡ both (holds g.kept c) (record_covers g.source g.start g.size c k)
  unfolding default_table record_covers
  table_covers c k =
      by_test (covered_by (default_table g k) 0 c ≡ both (holds g.kept c) (record_covers g.source g.start g.size c k)) (is_counted k)
      (λ e. rw e (bytes_cover g.source (place k) g.kept low few c))
      (λ e. rw e (none_covers c ∙ sym (both_none (holds g.kept c))))

  -- ---- the new subtable, wherever it stands

  module _ (ys : List ℕ) (at : ℕ) (st : Stands ys at (format14 (rows g))) (fits : length_of14 (rows g) < 256 ^ 4) (v c : ℕ) where
    -- with a kept selector, a code point is covered exactly where it is kept and the source's subtable covers it: none is lost, none is won
    pub subtable_covers : holds g.kept v ≡ true
        → defaults ys at (length_of14 (rows g)) v c ≡ both (holds g.kept c) (defaults g.source g.start g.size v c)
    subtable_covers h =
        let ks = select (selected g v c) (each (λ i. i) (selector_records g) 0) in
        let f = record_covers g.source g.start g.size c in
        rows_read (rows g) ys at st fits (all_plain (selector_records g) 0) v c
        ∙ kept_rows g v c h (selector_records g) 0
        ∙ any_same (given g v c) (λ k. both (holds g.kept c) (f k)) (table_covers c) ks
        ∙ any_both (holds g.kept c) f ks

    -- with any other selector, nowhere
    pub subtable_uncovers : holds g.kept v ≡ false → defaults ys at (length_of14 (rows g)) v c ≡ false
    subtable_uncovers h = rows_read (rows g) ys at st fits (all_plain (selector_records g) 0) v c ∙ dropped_rows g v c h (selector_records g) 0
