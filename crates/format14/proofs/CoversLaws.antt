-- No point is lost and none is won: the new default table covers a code point exactly where it is kept and the source's table covers it.
use Prim.Native.Nat.{ℕ, zero, suc, ◌+◌, ◌^◌, ◌<◌, ◌≤◌}
use mathlib.Core.Path.{◌≡◌, refl, sym, ap, ap₂, ◌∙◌}
use mathlib.Core.List.{List, [], ◌∷◌, map}
use mathlib.Core.Bool.{Bool, true, false}
use native.Mathlib.Nat.{add-zero, mod-eq_of_lt}
use native.Mathlib.Omega.{arith}
use borrow.Author.Tests.{eq-eqb, ne_eqb, eqb-true, le-leb, lt-leb, le-ltb}
use lib.Dec.{eqb, ltb}
use Rattle.laws.specs.Choice.{pick, both, either}
use lib.ListN.{length, get_or, length-append}
use Rattle.laws.specs.Linked.{Each}
use Rattle.laws.specs.Lists.{Pair}
use Rattle.laws.specs.Select.{each, select, any_of}
use Rattle.laws.proofs.ChoiceLaws.{by_leb, by_pick}
use Rattle.laws.proofs.EachLaws.{each_get_or}
use Rattle.laws.proofs.LengthLaws.{length-map, length-select}
use Rattle.laws.proofs.StandsLaws.{Stands}
use Rattle.lists_marks.specs.Marks.{between, holds}
use Rattle.number.specs.BigEndian.{be, enc}
use Rattle.number.proofs.BigEndianLaws.{be-enc_fits, length-enc}
use Rattle.number.proofs.StandsLaws.{be_stands}
use Rattle.format14_uvs.specs.Tables.{uvs_table}
use Rattle.format14_uvs.proofs.ReadLaws.{each_select, stands_front, stands_back, stands_whole, table_back}
use Rattle.format14_uvs.specs.Default.{range, ranges, range_bytes, covers, covered_by, covered_points, follow, longest, long_ranges, single_points, in_ranges, new_records, new_default}
use Rattle.format14_ranges.proofs.StreamLaws.{range_size, begun, begun-start, begun_full, begun_end, begun_gap, begun_on}
use Rattle.format14.proofs.NewLaws.{longest_single}

either_assoc : (a b c : Bool) → either (either a b) c ≡ either a (either b c)
either_assoc true b c = refl
either_assoc false b c = refl

both_none : (t : Bool) → both t false ≡ false
both_none true = refl
both_none false = refl

longest_none : (most : ℕ) → longest most 0 [] ≡ []
unfolding longest
longest_none most = refl

module _ (c : ℕ) where
  between_one : (p : ℕ) → between p (p + 0) c ≡ eqb p c
  between_one p =
      rw (add-zero p) (by_leb (between p p c ≡ eqb p c) p c
      (λ h. by_leb (between p p c ≡ eqb p c) c p
      (λ k. rw (le-leb p c h, le-leb c p k, eq-eqb p c (omega arith)))
      (λ k. rw (le-leb p c h, lt-leb c p k, ne_eqb p c (λ e. omega arith))))
      (λ h. rw (lt-leb p c h, ne_eqb p c (λ e. omega arith))))

  -- a stretch grows by the point behind it
  between_more : (p a q : ℕ) → q ≡ p + a + 1 → between p (p + (a + 1)) c ≡ either (between p (p + a) c) (eqb q c)
  between_more p a q e =
      by_leb (between p (p + (a + 1)) c ≡ either (between p (p + a) c) (eqb q c)) p c
      (λ h. by_leb (between p (p + (a + 1)) c ≡ either (between p (p + a) c) (eqb q c)) c (p + a)
      (λ k. rw (le-leb p c h, le-leb c (p + a) k, le-leb c (p + (a + 1)) (omega arith)))
      (λ k. by_leb (between p (p + (a + 1)) c ≡ either (between p (p + a) c) (eqb q c)) c q
      (λ l. rw (le-leb p c h, lt-leb c (p + a) k, le-leb c (p + (a + 1)) (omega arith), eq-eqb q c (omega arith)))
      (λ l. rw (le-leb p c h, lt-leb c (p + a) k, lt-leb c (p + (a + 1)) (omega arith), ne_eqb q c (λ d. omega arith)))))
      (λ h. rw (lt-leb p c h, ne_eqb q c (λ d. omega arith)))

  -- a record that is begun, and the points ahead
  begun-covers : (most : ℕ) (ps : List ℕ) (start a : ℕ) → any_of (covers c) (begun most start a ps) ≡ either (between start (start + a) c) (holds ps c)
  unfolding any_of holds
  begun-covers most [] start a = rw (begun_end most start a, longest_none most)
  begun-covers most (q ∷ ps) start a = by_test (λ s b. begun-covers most ps s b) (eqb q (start + a + 1)) refl
    where
      onward : ((s b : ℕ) → any_of (covers c) (begun most s b ps) ≡ either (between s (s + b) c) (holds ps c))
          → begun most start a (q ∷ ps) ≡ (start, a) ∷ longest most 0 (q ∷ ps)
          → any_of (covers c) (begun most start a (q ∷ ps)) ≡ either (between start (start + a) c) (either (eqb q c) (holds ps c))
      onward ih e = rw (e, begun-start most q ps, ih q 0, between_one q)

      by_test : ((s b : ℕ) → any_of (covers c) (begun most s b ps) ≡ either (between s (s + b) c) (holds ps c))
          → (t : Bool) → eqb q (start + a + 1) ≡ t → any_of (covers c) (begun most start a (q ∷ ps)) ≡ either (between start (start + a) c) (either (eqb q c) (holds ps c))
      by_test ih false e = onward ih (begun_gap most start a q ps e)
      by_test ih true e = by_leb (any_of (covers c) (begun most start a (q ∷ ps)) ≡ either (between start (start + a) c) (either (eqb q c) (holds ps c))) most a
          (λ h. onward ih (begun_full most start a (q ∷ ps) h))
          (λ h. rw (begun_on most start a q ps h e, ih start (a + 1), between_more start a q (eqb-true q (start + a + 1) e), either_assoc (between start (start + a) c) (eqb q c) (holds ps c)))

  pub longest-covers : (most : ℕ) (ps : List ℕ) → any_of (covers c) (longest most 0 ps) ≡ holds ps c
  unfolding any_of holds
  longest-covers most [] = rw (longest_none most)
  longest-covers most (p ∷ ps) = rw (begun-start most p ps, begun-covers most ps p 0, between_one p)

  holds-select : (q : ℕ → Bool) (ps : List ℕ) → holds (select q ps) c ≡ both (holds ps c) (q c)
  unfolding holds select
  holds-select q [] = refl
  holds-select q (p ∷ ps) = by_test (holds-select q ps) (eqb p c) refl (q p) refl
    where
      by_test : holds (select q ps) c ≡ both (holds ps c) (q c) → (t : Bool) → eqb p c ≡ t → (u : Bool) → q p ≡ u
          → holds (pick (q p) (p ∷ select q ps) (select q ps)) c ≡ both (either (eqb p c) (holds ps c)) (q c)
      by_test ih true e true d = rw (d, e, ← eqb-true p c e, d)
      by_test ih true e false d = rw (d, e, ih, ← eqb-true p c e, d) (both_none (holds ps p))
      by_test ih false e true d = rw (d, e, ih)
      by_test ih false e false d = rw (d, e, ih)

  pub new_covers : (xs : List ℕ) (p : ℕ) (kept : List ℕ) → any_of (covers c) (new_records xs p kept) ≡ both (holds kept c) (covered_by xs p c)
  new_covers xs p kept = by_test (in_ranges (be 4 xs p) kept) ∙ holds-select (covered_by xs p) kept
    where
      by_test : (t : Bool) → any_of (covers c) (pick t (long_ranges (covered_points xs p kept)) (single_points (covered_points xs p kept))) ≡ holds (covered_points xs p kept) c
      by_test true = longest-covers 255 (covered_points xs p kept)
      by_test false = rw (← longest_single (covered_points xs p kept)) (longest-covers 0 (covered_points xs p kept))

-- ---- no record is too long

follow_few : (most c : ℕ) (ps : List ℕ) → follow most c ps ≤ most
unfolding follow
follow_few zero c ps = omega arith
follow_few (suc most) c [] = omega arith
follow_few (suc most) c (p ∷ ps) = few (follow_few most p ps) (eqb p (c + 1))
  where
    few : follow most p ps ≤ most → (t : Bool) → pick t (suc (follow most p ps)) 0 ≤ suc most
    few h true = omega arith
    few h false = omega arith

-- at most `most` points after the start
pub longest_few : (most done : ℕ) (ps : List ℕ) → any_of (λ a. ltb most a.1) (longest most done ps) ≡ false
unfolding longest any_of
longest_few most zero [] = refl
longest_few most (suc done) [] = refl
longest_few most zero (p ∷ ps) = rw (le-ltb most (follow most p ps) (follow_few most p ps)) (longest_few most (follow most p ps) ps)
longest_few most (suc done) (p ∷ ps) = longest_few most done ps

-- ---- records read back from their bytes

length-longest : (most : ℕ) (done : ℕ) (ps : List ℕ) → length (longest most done ps) ≤ length ps
unfolding longest
length-longest most done [] = omega arith
length-longest most zero (p ∷ ps) = omega (arith, length-longest most (follow most p ps) ps)
length-longest most (suc done) (p ∷ ps) = omega (arith, length-longest most done ps)

pub length_records : (xs : List ℕ) (p : ℕ) (kept : List ℕ) → length (new_records xs p kept) ≤ length kept
length_records xs p kept =
    let points = covered_points xs p kept in
    let few = length-select (covered_by xs p) kept in
    by_pick (λ (r : List Pair). length r ≤ length kept) (in_ranges (be 4 xs p) kept) (long_ranges points) (single_points points)
    (λ e. omega (arith, length-longest 255 0 points))
    (λ e. rw (length-map {B = Pair} (λ (q : ℕ). (q, 0)) points) few)

-- a record that its four bytes hold
abbrev Fits : Pair → Type 0
Fits a = (a.0 < 256 ^ 3) × (a.1 < 256)

abbrev Point : ℕ → Type 0
Point c = c < 256 ^ 3

longest_fits : (most done : ℕ) (ps : List ℕ) → most < 256 → Each Point ps → Each Fits (longest most done ps)
unfolding longest
longest_fits most zero [] m h = tt
longest_fits most (suc done) [] m h = tt
longest_fits most zero (p ∷ ps) m h = ((h.0, omega (arith, follow_few most p ps)), longest_fits most (follow most p ps) ps m h.1)
longest_fits most (suc done) (p ∷ ps) m h = longest_fits most done ps m h.1

read_range : (ys : List ℕ) (at : ℕ) (a : Pair) → Fits a → Stands ys at (range_bytes a) → range ys at ≡ a
unfolding enc
read_range ys at a f st =
    let three = length-enc 3 a.0 in
    let last = stands_back (enc 3 a.0) (enc 1 a.1) (at + 3) (omega (arith, three)) st in
    ap₂ (λ (c b : ℕ). (c, b))
    (be_stands (stands_front (enc 3 a.0) (enc 1 a.1) st) 3 0 at (omega arith) (omega (arith, three)) ∙ be-enc_fits 3 a.0 f.0)
    (ap (λ i. get_or ys i 0) (sym (add-zero (at + 3))) ∙ last.same 0 (omega arith) ∙ mod-eq_of_lt f.1)

map_same : (rs : List Pair) → map (λ a. a) rs ≡ rs
map_same [] = refl
map_same (a ∷ rs) = ap (λ (l : List Pair). a ∷ l) (map_same rs)

none_read : (p : ℕ) → ranges [] p ≡ []
unfolding each be
none_read p = refl

pub none_covers : (c : ℕ) → covered_by [] 0 c ≡ false
unfolding any_of
none_covers c = rw (none_read 0)

back : (ys : List ℕ) (q : ℕ) (rs : List Pair) → Each Fits rs → length rs < 256 ^ 4 → Stands ys q (uvs_table range_bytes rs) → 0 < length (uvs_table range_bytes rs) → ranges ys q ≡ rs
back ys q rs f l st z = table_back range_bytes 4 range_size range (λ a. a) Fits read_range ys q rs f l st z ∙ map_same rs

own_back : (rs : List Pair) → Each Fits rs → length rs < 256 ^ 4 → ranges (uvs_table range_bytes rs) 0 ≡ rs
unfolding uvs_table
own_back [] f l = none_read 0
own_back (a ∷ rs) f l = back (uvs_table range_bytes (a ∷ rs)) 0 (a ∷ rs) f l (stands_whole (uvs_table range_bytes (a ∷ rs))) (rw (length-append, length-enc) (omega arith))

-- the kept points are of three bytes, and few
module _ (xs : List ℕ) (p : ℕ) (kept : List ℕ) (low : (i : ℕ) → get_or kept i 0 < 256 ^ 3) (few : length kept < 256 ^ 4) where
  fit : Each Fits (new_records xs p kept)
  fit =
      let points = covered_points xs p kept in
      let each-point = each_select Point (covered_by xs p) kept (each_get_or Point 0 kept (λ i h. low i)) in
      by_pick (λ (r : List Pair). Each Fits r) (in_ranges (be 4 xs p) kept) (long_ranges points) (single_points points)
      (λ e. longest_fits 255 0 points (omega arith) each-point)
      (λ e. rw (← longest_single points) (longest_fits 0 0 points (omega arith) each-point))

  short : length (new_records xs p kept) < 256 ^ 4
  short = omega (arith, length_records xs p kept)

  -- read back from its bytes, wherever they stand, the new table covers exactly the kept points that the source's covers
  pub stands_covers : (ys : List ℕ) (q : ℕ) → Stands ys q (new_default xs p kept) → 0 < length (new_default xs p kept) → (c : ℕ) → covered_by ys q c ≡ both (holds kept c) (covered_by xs p c)
  unfolding new_default
  stands_covers ys q st z c = rw (back ys q (new_records xs p kept) fit short st z) (new_covers c xs p kept)

  pub bytes_cover : (c : ℕ) → covered_by (new_default xs p kept) 0 c ≡ both (holds kept c) (covered_by xs p c)
  unfolding new_default
  bytes_cover c = rw (own_back (new_records xs p kept) fit short) (new_covers c xs p kept)
