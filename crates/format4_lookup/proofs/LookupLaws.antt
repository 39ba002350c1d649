-- Looking a code point up in the segments that a rising list of pairs is cut into gives its listed glyph, or tells that none is listed.
use Prim.Native.Nat.{ℕ, zero, suc, ◌+◌, ◌-◌, ◌%◌, ◌≤◌, ◌<◌}
use native.Mathlib.Omega.{arith}
use mathlib.Core.Path.{◌≡◌, refl, sym, ap, ◌∙◌}
use mathlib.Core.List.{List, [], ◌∷◌, ◌++◌, map, map-append, append-nil}
use mathlib.Core.Bool.{Bool, true, false, not}
use lib.Dec.{eqb, leb}
use lib.ListN.{length, get_or, drop, length-map, get_or-append}
use lib.Seq.{drop_at}
use borrow.Author.Tests.{le-leb, lt-leb, leb-true, leb-false, eq-eqb, ne_eqb, eqb-true, eqb-false}
use Rattle.laws.specs.Choice.{pick}
use Rattle.laws.specs.Lists.{Pair, pairs}
use Rattle.laws.specs.Pieces.{concat}
use Rattle.laws.specs.Listed.{listed_as}
use Rattle.laws.specs.Linked.{Each, Filled, Linked}
use Rattle.laws.proofs.ChoiceLaws.{by_pick, by_leb, false-true}
use Rattle.laws.proofs.EitherLaws.{true_of_not}
use Rattle.laws.proofs.EachLaws.{each_of, each_both, each_pieces, each_mapped}
use Rattle.laws.proofs.ListedLaws.{listed_not, listed_none}
use Rattle.laws.proofs.LinkedLaws.{linked_filled, pieces_linked}
use Rattle.laws.proofs.RisingEachLaws.{Climbs, rising_climbs, climbs_right}
use Rattle.format4_cutting.specs.declared.Segment.{Segment}
use Rattle.format4_cutting.specs.Cutting.{next_code, next_glyph, ranges_of, runs_of, Cut, cut_of, present, cut_range, cuts, run_delta, first_code, last_code, segment_of, last_end, segments, glyphs, array_of, glyph_array, closing, entries_of}
use Rattle.format4_cutting.proofs.CuttingLaws.{parts, Adjacent, linked_length, cuts_pairs, runs_each, cuts_each, cuts_adjacent}
use Rattle.format4_lookup.proofs.FitsLaws.{Fit, cuts_fit, first_low}
use Rattle.format4_lookup.specs.CutLookup.{value_in, lookup_in, unlisted, Fits16, Listed16}

abbrev codes : List Pair → List ℕ
codes ps = map (λ (p : Pair). p.0) ps

-- ---- a run's delta tells its glyphs

-- a delta that is not 0 leads from each code point to its glyph
abbrev Told : Cut → Type 0
Told x = (x.delta ≡ 0 → ⊥) → (k : ℕ) → k < length x.pairs → (first_code x.pairs + k + x.delta) % 65536 ≡ get_or (glyphs x.pairs) k 0

abbrev Run : List Pair → Type 0
Run run = Linked next_glyph run × Each Fits16 run

glyph_at : (p : Pair) (run : List Pair) (k : ℕ) → Linked next_glyph (p ∷ run) → k < length (p ∷ run) → get_or (glyphs (p ∷ run)) k 0 ≡ p.1 + k
glyph_at p run zero h l = omega arith
glyph_at p [] (suc k) h l = absurd (omega arith)
glyph_at p (q ∷ run) (suc k) h l =
    let e = glyph_at q run k h.1 (omega arith) in
    let f = eqb-true q.1 (p.1 + 1) h.0 in
    omega arith

glyph_fits : (ps : List Pair) (k : ℕ) → Each Fits16 ps → k < length ps → get_or (glyphs ps) k 0 < 65536
glyph_fits [] k h l = absurd (omega arith)
glyph_fits (p ∷ ps) zero h l = h.0.1
glyph_fits (p ∷ ps) (suc k) h l = glyph_fits ps k h.1 (omega arith)

run_told : (run : List Pair) → Run run → (k : ℕ) → k < length run → (first_code run + k + run_delta run) % 65536 ≡ get_or (glyphs run) k 0
run_told [] h k l = absurd h.0
run_told (p ∷ run) h k l =
    let e = glyph_at p run k h.0 l in
    let b = glyph_fits (p ∷ run) k h.1 l in
    let c = h.1.0.0 in
    rw e (omega arith)

runs_told : (runs : List (List Pair)) → present runs ≡ true → Each Run runs → Told (cut_of runs)
unfolding concat
runs_told [] e h n = absurd (false-true e)
runs_told (run ∷ []) e h n = rw (append-nil run) (run_told run h.0)
runs_told (run ∷ next ∷ runs) e h n = absurd (n refl)

range_told : (range : List Pair) → Each Fits16 range → Each Told (cut_range range)
range_told range h =
    runs_each Run Told runs_told 8 [] (runs_of range) tt
    (each_both (Linked next_glyph) (Each Fits16) (runs_of range) (pieces_linked next_glyph range) (each_pieces Fits16 next_glyph range h))

cuts_told : (ps : List Pair) → Each Fits16 ps → Each Told (cuts ps)
cuts_told ps h = cuts_each Told ps (each_of (Each Fits16) (λ (range : List Pair). Each Told (cut_range range)) range_told (ranges_of ps) (each_pieces Fits16 next_code ps h))

-- ---- the glyph of a code point among the pairs

-- the code points of a cut lie below what lies past its last
past_last : (ps : List Pair) (c : ℕ) → Linked next_code ps → last_code ps < c → Each (λ (p : Pair). p.0 ≡ c → ⊥) ps
past_last [] c h l = absurd h
past_last (p ∷ []) c h l = (λ e. omega arith, tt)
past_last (p ∷ q ∷ ps) c h l = let e = linked_length (p ∷ q ∷ ps) h in ((λ z. omega arith), past_last (q ∷ ps) c h.1 l)

-- and those of rising ones above what lies before their first
before_first : (ps : List Pair) (c : ℕ) → Climbs (codes ps) → c < first_code ps → Each (λ (p : Pair). p.0 ≡ c → ⊥) ps
before_first [] c h l = absurd (omega arith)
before_first (p ∷ ps) c h l = (λ e. omega arith, each_of (λ (q : Pair). p.0 < q.0) (λ (q : Pair). q.0 ≡ c → ⊥) (λ q k e. omega arith) ps (each_mapped (λ (n : ℕ). p.0 < n) (λ (q : Pair). q.0) ps h.0))

first_append : (ps qs : List Pair) → Filled ps → first_code (ps ++ qs) ≡ first_code ps
first_append [] qs h = absurd h
first_append (p ∷ ps) qs h = refl

-- ---- the lookup

module _ (x : Cut) (array : List ℕ) (a : Adjacent x) where
  -- the entries of one cut are passed over with it
  drop_entries : drop (entries_of (segment_of x)) (array_of x ++ array) ≡ array
  drop_entries = rw (linked_length x.pairs a) (go (eqb x.delta 0))
    where
      go : (t : Bool) → drop (pick t (length x.pairs) 0) (pick t (glyphs x.pairs) [] ++ array) ≡ array
      go true = drop_at (glyphs x.pairs) array (length x.pairs) (length-map x.pairs (λ (p : Pair). p.1))
      go false = refl

  -- the k-th code point of a cut
  value_at : Told x → (k : ℕ) → k < length x.pairs → value_in (array_of x ++ array) (segment_of x) (first_code x.pairs + k) ≡ get_or (glyphs x.pairs) k 0
  value_at told k l =
      let e : first_code x.pairs + k - first_code x.pairs ≡ k = omega arith in
      rw e (go (eqb x.delta 0) refl)
    where
      go : (t : Bool) → eqb x.delta 0 ≡ t
          → pick t (get_or (pick t (glyphs x.pairs) [] ++ array) k 0) ((first_code x.pairs + k + x.delta) % 65536) ≡ get_or (glyphs x.pairs) k 0
      go true d = get_or-append (glyphs x.pairs) array 0 k (omega (arith, length-map x.pairs (λ (p : Pair). p.1)))
      go false d = told (eqb-false x.delta 0 d) k l

module _ {A : Type 0} (none : A) (glyph : ℕ → A) where
  listed_at : (ps qs : List Pair) (k : ℕ) → Linked next_code ps → k < length ps → listed_as none glyph (ps ++ qs) (first_code ps + k) ≡ glyph (get_or (glyphs ps) k 0)
  unfolding listed_as
  listed_at [] qs k h l = absurd h
  listed_at (p ∷ ps) qs zero h l = rw (eq-eqb p.0 (p.0 + 0) (omega arith))
  listed_at (p ∷ []) qs (suc k) h l = absurd (omega arith)
  listed_at (p ∷ q ∷ ps) qs (suc k) h l =
      let f = eqb-true q.0 (p.0 + 1) h.0 in
      let e : p.0 + suc k ≡ q.0 + k = omega arith in
      rw (ne_eqb p.0 (p.0 + suc k) (λ z. omega arith), e) (listed_at (q ∷ ps) qs k h.1 (omega arith))

  value_in_lem : (x : Cut) (array : List ℕ) (rest : List Pair) → Adjacent x → Told x → (c : ℕ) → first_code x.pairs ≤ c → c ≤ last_code x.pairs
      → glyph (value_in (array_of x ++ array) (segment_of x) c) ≡ listed_as none glyph (x.pairs ++ rest) c
  value_in_lem x array rest a told c f l =
      let n = linked_length x.pairs a in
      let k = c - first_code x.pairs in
      let e : first_code x.pairs + k ≡ c = omega arith in
      let m : k < length x.pairs = omega arith in
      rw e at (ap glyph (value_at x array a told k m) ∙ sym (listed_at x.pairs rest k a m))

module _ {A : Type 0} (none : A) (glyph : ℕ → A) (c : ℕ) (small : c < 65536) where
  closing_finds : (array : List ℕ) → lookup_in none glyph array (closing true) c ≡ unlisted none glyph c
  unfolding lookup_in
  closing_finds array =
      by_leb (lookup_in none glyph array (closing true) c ≡ unlisted none glyph c) 65535 c
      (λ k. let e : c ≡ 65535 = omega arith in rw e)
      (λ k. rw (le-leb c 65535 (omega arith), lt-leb 65535 c k, ne_eqb c 65535 (λ e. omega arith)))

  -- past the first segment
  reach_next : (x : Segment) (ss : List Segment) → c ≤ last_end (x ∷ ss) → x.end < c → c ≤ last_end ss
  reach_next x [] h l = absurd (omega arith)
  reach_next x (y ∷ ss) h l = h

  -- where no closing segment follows, the last end reaches c
  cuts_find : (cs : List Cut) (t : Bool) → (t ≡ false → c ≤ last_end (map segment_of cs)) → Climbs (codes (concat (parts cs))) → Each Adjacent cs → Each Told cs → Each Fit cs
      → lookup_in none glyph (concat (map array_of cs)) (map segment_of cs ++ closing t) c ≡ listed_as (unlisted none glyph c) glyph (concat (parts cs)) c
  unfolding lookup_in concat
  cuts_find [] true z r a d f = closing_finds [] ∙ sym (listed_none (unlisted none glyph c) glyph [] c tt)
  cuts_find [] false z r a d f = let l = z refl in rw (listed_none (unlisted none glyph c) glyph [] c tt, ne_eqb c 65535 (λ e. omega arith))
  cuts_find (x ∷ cs) t z r a d f =
      let ps = x.pairs in
      let rest = concat (parts cs) in
      let array = concat (map array_of cs) in
      let P : A → Type 0 = λ n. n ≡ listed_as (unlisted none glyph c) glyph (ps ++ rest) c in
      let value = glyph (value_in (array_of x ++ array) (segment_of x) c) in
      by_pick P (leb c (last_code ps)) (pick (leb (first_code ps) c) value none) (lookup_in none glyph (drop (entries_of (segment_of x)) (array_of x ++ array)) (map segment_of cs ++ closing t) c)
      (λ e. by_pick P (leb (first_code ps) c) value none
      (λ g. value_in_lem (unlisted none glyph c) glyph x array rest a.0 d.0 c (leb-true (first_code ps) c g) (leb-true c (last_code ps) e))
      (λ g.
      let l = leb-false (first_code ps) c g in
      let b = first_low ps f.0 in
      rw (listed_none (unlisted none glyph c) glyph (ps ++ rest) c (before_first (ps ++ rest) c r (rw (first_append ps rest (linked_filled next_code ps a.0)) l)), ne_eqb c 65535 (λ e. omega arith))))
      (λ e.
      let l = leb-false c (last_code ps) e in
      rw (drop_entries x array a.0, listed_not (unlisted none glyph c) glyph ps rest c (past_last ps c a.0 l))
      (cuts_find cs t (λ k. reach_next (segment_of x) (map segment_of cs) (z k) l) (climbs_right (codes ps) (codes rest) (rw (map-append (λ (p : Pair). p.0) ps rest) at r)) a.1 d.1 f.1))

  -- the key fact: a code point is found with its listed glyph; none is found where none is listed, but at 0xFFFF glyph 0
  pub segments_find : (ps : List Pair) → Listed16 ps → lookup_in none glyph (glyph_array ps) (segments ps) c ≡ listed_as (unlisted none glyph c) glyph ps c
  unfolding glyph_array segments
  segments_find ps l =
      let r = rising_climbs (codes ps) l.rising in
      let ss = map segment_of (cuts ps) in
      let z : not (eqb (last_end ss) 65535) ≡ false → c ≤ last_end ss = λ e. let h = eqb-true (last_end ss) 65535 (true_of_not (eqb (last_end ss) 65535) e) in omega arith in
      rw (cuts_pairs ps) at (cuts_find (cuts ps) (not (eqb (last_end ss) 65535)) z (rw (cuts_pairs ps) r) (cuts_adjacent ps) (cuts_told ps l.fits) (cuts_fit ps l.fits))
