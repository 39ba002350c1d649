-- Read back from the bytes of the new subtable, wherever it stands, a code point with a kept selector is given the new numbers of exactly those glyphs
-- that the source's subtable gave it and that stay, in order.
use Prim.Native.Nat.{ℕ, zero, suc, ◌+◌, ◌*◌, ◌^◌, ◌<◌}
use mathlib.Core.Path.{◌≡◌, refl, sym, ap, ◌∙◌}
use mathlib.Core.List.{List, [], ◌∷◌, ◌++◌, append_assoc, map, map-append}
use mathlib.Core.Bool.{Bool, true, false}
use native.Mathlib.Omega.{arith}
use borrow.Author.Tests.{eqb-true}
use lib.Dec.{eqb}
use lib.ListN.{length, length-append}
use Rattle.laws.specs.Choice.{pick, either}
use Rattle.laws.specs.Linked.{Each}
use Rattle.laws.specs.Pieces.{concat}
use Rattle.laws.specs.Select.{each, select, flat}
use Rattle.laws.specs.Lasts.{among}
use Rattle.laws.proofs.ChoiceLaws.{by_leb, by_pick, false-true, by_test}
use Rattle.laws.proofs.EachLaws.{each_right, each_map}
use Rattle.laws.proofs.EitherLaws.{neither_right}
use Rattle.laws.proofs.EqListLaws.{eq_refl}
use Rattle.laws.proofs.LastsLaws.{among_here, among_there}
use Rattle.laws.proofs.SelectLaws.{length-flat}
use Rattle.laws.proofs.StandsLaws.{Stands, stands_append, stands_in}
use Rattle.lists_marks.specs.Marks.{holds}
use Rattle.number.specs.BigEndian.{be, enc, Bytes}
use Rattle.number.proofs.BigEndianLaws.{be_lt, be_front, be_back, be-enc_fits, length-enc}
use Rattle.number.proofs.StandsLaws.{be_stands}
use Rattle.format14_uvs.specs.Tables.{counts_non_default}
use Rattle.format14_uvs.specs.NonDefault.{mappings, new_non_default}
use Rattle.format14_uvs.proofs.ReadLaws.{each_row, each_select}
use Rattle.format14.specs.Gives.{glyphs_for, staying_glyphs, new_glyph, Glyphs}
use Rattle.format14.proofs.GivesLaws.{none_read, stands_mappings, new-mappings, new_gives, all_stay}
use Rattle.format14.specs.Selectors.{Job14, selector_records, selector_of, non_default_offset, keeps_selector, default_table, non_default_table, kept_records, there, one}
use Rattle.format14.proofs.ShapeLaws.{non_default_shape}
use Rattle.format14.specs.Format14.{Row, row_of, rows_of, rows, used, tables, written_tables, uvs_offset, row_bytes, length_of14, header14, format14}
use Rattle.format14.specs.Variants.{record_mappings, variants}
use Rattle.format14.proofs.OffsetsLaws.{leads, offset_none, offset_fits, counts_here, counts_none}
use Rattle.format14.proofs.SlotsLaws.{there_some, nil_eq}
use Rattle.format14.proofs.WholeLaws.{length_head, row_size}

-- ---- lists

flat_append : {A : Type 0} (w : A → List ℕ) (xs ys : List A) → flat w (xs ++ ys) ≡ flat w xs ++ flat w ys
unfolding flat
flat_append w [] ys = refl
flat_append w (x ∷ xs) ys = rw (flat_append w xs ys) (sym (append_assoc (w x) (flat w xs) (flat w ys)))

pub among_right : (t : List ℕ) (us vs : List (List ℕ)) → among t vs ≡ true → among t (us ++ vs) ≡ true
among_right t [] vs e = e
among_right t (u ∷ us) vs e = among_there t u (us ++ vs) (among_right t us vs e)

-- a row's own answers, read by its place
by_place : (f : ℕ → List ℕ) (q : ℕ → Bool) (w : Row → List ℕ) (p : Row → Bool) (front back : List Row)
    → ((us : List Row) (r : Row) (vs : List Row) → front ++ back ≡ us ++ (r ∷ vs) → (f (length us) ≡ w r) × (q (length us) ≡ p r))
    → flat f (select q (each (λ k. k) (length back) (length front))) ≡ flat w (select p back)
unfolding flat select each
by_place f q w p front [] h = refl
by_place f q w p front (r ∷ back) h =
    let here = h front r back refl in
    let on : front ++ (r ∷ back) ≡ (front ++ (r ∷ [])) ++ back = sym (append_assoc front (r ∷ []) back) in
    let next : length (front ++ (r ∷ [])) ≡ length front + 1 = length-append front (r ∷ []) in
    let ih = rw next at (by_place f q w p (front ++ (r ∷ [])) back (λ us s vs e. h us s vs (on ∙ e))) in
    by_test (flat f (select q (each (λ k. k) (length (r ∷ back)) (length front))) ≡ flat w (select p (r ∷ back))) (p r)
    (λ e. rw (here.1, e, here.0) (ap (λ l. w r ++ l) ih))
    (λ e. rw (here.1, e) ih)

-- ---- rows read back

-- a row whose selector has three bytes, and whose non-default table has as many mappings as its count says and is read as it is where it stands
pub record Good (r : Row) : Type 0 where
  pub fits : r.selector < 256 ^ 3
  pub shape : 0 < length r.non_default_uvs → length r.non_default_uvs ≡ 4 + 5 * be 4 r.non_default_uvs 0
  pub reads : (ys : List ℕ) (q : ℕ) → Stands ys q r.non_default_uvs → 0 < length r.non_default_uvs → mappings ys q ≡ mappings r.non_default_uvs 0

parts : (a b c d e : List ℕ) → a ++ ((b ++ (c ++ d)) ++ e) ≡ (a ++ b) ++ (c ++ (d ++ e))
parts a b c d e = simp append_assoc

module _ (rs : List Row) (ys : List ℕ) (at : ℕ) (st : Stands ys at (format14 rs)) (small : length_of14 rs < 256 ^ 4) where
  pub read_count : be 4 ys (at + 6) ≡ length rs
  unfolding format14
  read_count =
      let n = length rs in
      let six : length (enc 2 14 ++ enc 4 (length_of14 rs)) ≡ 6 = rw (length-append, length-enc 2 14, length-enc 4 (length_of14 rs)) in
      let tail = flat (row_bytes rs) rs ++ concat (written_tables rs) in
      let ahead : format14 rs ≡ (enc 2 14 ++ enc 4 (length_of14 rs)) ++ (enc 4 n ++ tail) = simp append_assoc in
      let here = rw six at (stands_append (enc 2 14 ++ enc 4 (length_of14 rs)) (enc 4 n) tail) in
      be_stands (stands_in at 6 st (rw ahead here)) 4 0 (at + 6) (omega arith) (rw (length-enc 4 n) (omega arith)) ∙ be-enc_fits 4 n (omega arith)

  module _ (us : List Row) (r : Row) (vs : List Row) (e : rs ≡ us ++ (r ∷ vs)) where
    row_stands : Stands (format14 rs) (10 + 11 * length us) (row_bytes rs r)
    unfolding format14 flat
    row_stands =
        let w = row_bytes rs in
        let rest : flat w rs ≡ flat w us ++ (w r ++ flat w vs) = ap (flat w) e ∙ flat_append w us (r ∷ vs) in
        let place : length (header14 rs ++ flat w us) ≡ 10 + 11 * length us = rw (length-append, length_head rs, length-flat w 11 (row_size rs) us) in
        let whole : format14 rs ≡ (header14 rs ++ flat w us) ++ (w r ++ (flat w vs ++ concat (written_tables rs))) = ap (λ l. header14 rs ++ (l ++ concat (written_tables rs))) rest ∙ parts (header14 rs) (flat w us) (w r) (flat w vs) (concat (written_tables rs)) in
        rw whole (rw place at (stands_append (header14 rs ++ flat w us) (w r) (flat w vs ++ concat (written_tables rs))))

    abbrev t : List ℕ
    t = r.non_default_uvs

    pub row_here : Stands ys (at + (10 + 11 * length us)) (row_bytes rs r)
    row_here = stands_in at (10 + 11 * length us) st row_stands

    among_row : 0 < length t → among t (tables rs) ≡ true
    unfolding tables
    among_row z = rw e (on us)
      where
        last : among t (one t ++ tables vs) ≡ true
        last = rw (there_some t z) (among_here t t (tables vs) (eq_refl t))

        on : (us : List Row) → among t (tables (us ++ (r ∷ vs))) ≡ true
        on [] = among_right t (one r.default_uvs) (one t ++ tables vs) last
        on (u ∷ us) = among_right t (one u.default_uvs) (one u.non_default_uvs ++ tables (us ++ (r ∷ vs))) (among_right t (one u.non_default_uvs) (tables (us ++ (r ∷ vs))) (on us))

    pub read_selector : r.selector < 256 ^ 3 → be 3 ys (at + 10 + 11 * length us) ≡ r.selector
    read_selector f =
        let three = length-enc 3 r.selector in
        let first = enc 4 (uvs_offset rs r.default_uvs) ++ enc 4 (uvs_offset rs t) in
        be_stands row_here 3 0 (at + 10 + 11 * length us) (omega arith) (rw (row_size rs r) (omega arith))
        ∙ be_front 3 (enc 3 r.selector) first 0 (omega (arith, three))
        ∙ be-enc_fits 3 r.selector f

    read_offset : be 4 ys (at + 10 + 11 * length us + 7) ≡ uvs_offset rs t
    read_offset =
        let a = enc 3 r.selector in
        let b = enc 4 (uvs_offset rs r.default_uvs) in
        let d = enc 4 (uvs_offset rs t) in
        let three : length a + 4 ≡ 7 = rw (length-enc 3 r.selector) in
        let four : length b + 0 ≡ 4 = rw (length-enc 4 (uvs_offset rs r.default_uvs)) in
        be_stands row_here 4 7 (at + 10 + 11 * length us + 7) (omega arith) (rw (row_size rs r) (omega arith))
        ∙ rw three at (be_back 4 a (b ++ d) 4)
        ∙ rw four at (be_back 4 b d 0)
        ∙ be-enc_fits 4 (uvs_offset rs t) (offset_fits rs t among_row small)

    read_mappings : Good r → record_mappings ys at (length_of14 rs) (length us) ≡ mappings t 0
    unfolding record_mappings
    read_mappings g =
        let o = uvs_offset rs t in
        rw read_offset (by_leb (pick (counts_non_default ys at (length_of14 rs) o) (mappings ys (at + o)) [] ≡ mappings t 0) 1 (length t)
        (λ h.
        let here = stands_in at o st (leads rs t among_row h) in
        rw (counts_here rs t among_row ys at st 5 h (g.shape h)) (g.reads ys (at + o) here h))
        (λ h.
        let none : length t ≡ 0 = omega arith in
        rw (offset_none rs t none, counts_none 5 ys at (length_of14 rs), nil_eq t none) (sym (none_read 0))))

  -- what the subtable gives, row by row
  rows_read : Each Good rs → (v c : ℕ) → variants ys at (length_of14 rs) v c ≡ flat (λ r. glyphs_for (mappings r.non_default_uvs 0) c) (select (λ r. eqb r.selector v) rs)
  rows_read good v c =
      rw read_count (by_place (λ k. glyphs_for (record_mappings ys at (length_of14 rs) k) c) (λ k. eqb (be 3 ys (at + 10 + 11 * k)) v)
      (λ r. glyphs_for (mappings r.non_default_uvs 0) c) (λ r. eqb r.selector v) [] rs
      (λ us r vs e.
      let g = (each_right Good us (r ∷ vs) (rw e at good)).0 in
      (ap (λ ms. glyphs_for ms c) (read_mappings us r vs e g), ap (λ s. eqb s v) (read_selector us r vs e g.fits))))

-- ---- the rows of the source's records

module _ (g : Job14) (v c : ℕ) where
  abbrev given : ℕ → List ℕ
  given k = glyphs_for (mappings (non_default_table g k) 0) c

  abbrev chosen : ℕ → Bool
  chosen k = eqb (selector_of g k) v

  abbrev in_rows : List Row → List ℕ
  in_rows rs = flat (λ r. glyphs_for (mappings r.non_default_uvs 0) c) (select (λ r. eqb r.selector v) rs)

  pub apart : (k : ℕ) → (keeps_selector g k ≡ holds g.kept v → ⊥) → chosen k ≡ false
  unfolding keeps_selector
  apart k n = by_test (chosen k ≡ false) (chosen k) (λ e. absurd (n (ap (holds g.kept) (eqb-true (selector_of g k) v e)))) (λ e. e)

  -- a row that is left out gives nothing
  unused_none : (k : ℕ) → used (row_of g k) ≡ false → given k ≡ []
  unfolding used select
  unused_none k e =
      let no = neither_right (there (default_table g k)) (there (non_default_table g k)) e in
      by_leb (given k ≡ []) 1 (length (non_default_table g k))
      (λ h. absurd (false-true (sym no ∙ there_some (non_default_table g k) h)))
      (λ h. rw (nil_eq (non_default_table g k) (omega arith), none_read 0))

  kept_rows : holds g.kept v ≡ true → (n k : ℕ) → in_rows (rows_of g n k) ≡ flat given (select chosen (each (λ i. i) n k))
  unfolding flat select each
  kept_rows h zero k = refl
  kept_rows h (suc n) k =
      let ih = kept_rows h n (k + 1) in
      by_test (in_rows (rows_of g (suc n) k) ≡ flat given (select chosen (each (λ i. i) (suc n) k))) (keeps_selector g k)
      (λ p. by_test (in_rows (rows_of g (suc n) k) ≡ flat given (select chosen (each (λ i. i) (suc n) k))) (used (row_of g k))
      (λ q. by_test (in_rows (rows_of g (suc n) k) ≡ flat given (select chosen (each (λ i. i) (suc n) k))) (chosen k)
      (λ s. rw (p, q, s) (ap (λ l. given k ++ l) ih))
      (λ s. rw (p, q, s) ih))
      (λ q. by_test (in_rows (rows_of g (suc n) k) ≡ flat given (select chosen (each (λ i. i) (suc n) k))) (chosen k)
      (λ s. rw (p, q, s, unused_none k q) ih)
      (λ s. rw (p, q, s) ih)))
      (λ p. rw (p, apart k (λ e. false-true (sym p ∙ e ∙ h))) ih)

  -- another selector gives nothing
  dropped_rows : holds g.kept v ≡ false → (n k : ℕ) → in_rows (rows_of g n k) ≡ []
  unfolding flat select each
  dropped_rows h zero k = refl
  dropped_rows h (suc n) k =
      let ih = dropped_rows h n (k + 1) in
      by_test (in_rows (rows_of g (suc n) k) ≡ []) (keeps_selector g k)
      (λ p. by_test (in_rows (rows_of g (suc n) k) ≡ []) (used (row_of g k))
      (λ q. rw (p, q, apart k (λ e. false-true (sym h ∙ sym e ∙ p))) ih)
      (λ q. rw (p, q) ih))
      (λ p. rw p ih)

-- ---- the new tables

select-append : {A : Type 0} (p : A → Bool) (xs ys : List A) → select p (xs ++ ys) ≡ select p xs ++ select p ys
unfolding select
select-append p [] ys = refl
select-append p (x ∷ xs) ys =
    let ih = select-append p xs ys in
    by_test (select p ((x ∷ xs) ++ ys) ≡ select p (x ∷ xs) ++ select p ys) (p x)
    (λ e. rw e (ap (λ l. x ∷ l) ih))
    (λ e. rw e ih)

module _ (g : Job14) (bytes : Bytes g.source) (small : Glyphs g.glyphs) where
  abbrev place : ℕ → ℕ
  place k = g.start + non_default_offset g k

  abbrev is_counted : ℕ → Bool
  is_counted k = counts_non_default g.source g.start g.size (non_default_offset g k)

  abbrev new : ℕ → List ℕ
  new k = new_non_default g.source (place k) g.kept g.glyphs g.requested

  new_good : (k : ℕ) → Good (row_of g k)
  unfolding non_default_table
  new_good k = record {
    fits = be_lt 3 g.source (g.start + 10 + 11 * k) bytes;
    shape = by_pick (λ (t : List ℕ). 0 < length t → length t ≡ 4 + 5 * be 4 t 0) (is_counted k) (new k) []
        (λ e z. non_default_shape g.source (place k) g.kept g.glyphs g.requested (be_lt 4 g.source (place k) bytes) z)
        (λ e z. absurd (omega arith));
    reads = by_pick (λ (t : List ℕ). (ys : List ℕ) (q : ℕ) → Stands ys q t → 0 < length t → mappings ys q ≡ mappings t 0) (is_counted k) (new k) []
        (λ e ys q st z. stands_mappings g.source (place k) g.kept g.glyphs g.requested bytes small ys q st z ∙ sym (new-mappings g.source (place k) g.kept g.glyphs g.requested bytes small))
        (λ e ys q st z. absurd (omega arith));
  }

  all_good : (n k : ℕ) → Each Good (rows_of g n k)
  all_good n k = each_select Good used (map (row_of g) (kept_records g n k)) (each_map Good (row_of g) (kept_records g n k) (each_select (λ i. Good (row_of g i)) (keeps_selector g) (each (λ i. i) n k) (each_row (λ i. Good (row_of g i)) (λ i. i) new_good n k)))

  module _ (c : ℕ) where
    abbrev renewed : List ℕ → List ℕ
    renewed gs = map (new_glyph g.glyphs) (staying_glyphs g.kept g.requested c gs)

    abbrev source : ℕ → List ℕ
    source k = glyphs_for (record_mappings g.source g.start g.size k) c

    table_gives : (k : ℕ) → glyphs_for (mappings (non_default_table g k) 0) c ≡ renewed (source k)
    unfolding non_default_table record_mappings select
    table_gives k =
        by_test (glyphs_for (mappings (non_default_table g k) 0) c ≡ renewed (source k)) (is_counted k)
        (λ e. rw e (new_gives g.source (place k) g.kept g.glyphs g.requested bytes small c))
        (λ e. rw (e, none_read 0))

    renewed-flat : (ks : List ℕ) → flat (λ k. glyphs_for (mappings (non_default_table g k) 0) c) ks ≡ renewed (flat source ks)
    unfolding flat select
    renewed-flat [] = refl
    renewed-flat (k ∷ ks) =
        rw (
          table_gives k,
          renewed-flat ks,
          select-append (λ i. either (holds g.kept c) (holds g.requested i)) (source k) (flat source ks),
          map-append (new_glyph g.glyphs) (staying_glyphs g.kept g.requested c (source k)) (staying_glyphs g.kept g.requested c (flat source ks)),
        )

  -- ---- the new subtable, wherever it stands

  module _ (ys : List ℕ) (at : ℕ) (st : Stands ys at (format14 (rows g))) (fits : length_of14 (rows g) < 256 ^ 4) (v c : ℕ) where
    -- with a kept selector, a code point is given the new numbers of those glyphs that the source's subtable gave it and that stay
    pub subtable_gives : holds g.kept v ≡ true
        → variants ys at (length_of14 (rows g)) v c
        ≡ map (new_glyph g.glyphs) (staying_glyphs g.kept g.requested c (variants g.source g.start g.size v c))
    subtable_gives h =
        rows_read (rows g) ys at st fits (all_good (selector_records g) 0) v c
        ∙ kept_rows g v c h (selector_records g) 0
        ∙ renewed-flat c (select (chosen g v c) (each (λ i. i) (selector_records g) 0))

    -- if the code point is kept too, of all of them: none is lost, none is won
    pub subtable_keeps : holds g.kept v ≡ true → holds g.kept c ≡ true
        → variants ys at (length_of14 (rows g)) v c ≡ map (new_glyph g.glyphs) (variants g.source g.start g.size v c)
    subtable_keeps h k = subtable_gives h ∙ ap (λ (l : List ℕ). map (new_glyph g.glyphs) l) (all_stay g.kept g.requested c k (variants g.source g.start g.size v c))

    -- with any other selector, nothing
    pub subtable_drops : holds g.kept v ≡ false → variants ys at (length_of14 (rows g)) v c ≡ []
    subtable_drops h = rows_read (rows g) ys at st fits (all_good (selector_records g) 0) v c ∙ dropped_rows g v c h (selector_records g) 0
