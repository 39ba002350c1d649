-- The cuts of a list of pairs are that list in parts, each of adjacent code points; and the glyph array can be found segment by segment.
use Prim.Native.Nat.{ℕ, ◌+◌, ◌-◌, ◌≤◌}
use native.Mathlib.Omega.{arith}
use native.Mathlib.Nat.{zero-add}
use mathlib.Core.Path.{◌≡◌, refl, sym, ◌∙◌, ap}
use mathlib.Core.List.{List, [], ◌∷◌, ◌++◌, map, map-append, append_assoc, append-nil}
use mathlib.Core.Bool.{Bool, true, false, not}
use lib.Dec.{eqb, leb}
use lib.ListN.{length, length-append, length-map}
use lib.Seq.{take_at, drop_at}
use borrow.Author.Tests.{eqb-true}
use Rattle.laws.specs.Choice.{pick, both}
use Rattle.laws.specs.Lists.{Pair}
use Rattle.laws.specs.Pieces.{pieces, concat}
use Rattle.laws.specs.Linked.{Each, Filled, Linked}
use Rattle.laws.proofs.ChoiceLaws.{by_pick, both_left, false-true}
use Rattle.laws.proofs.PiecesLaws.{concat-append, concat-pieces}
use Rattle.laws.proofs.PiecesFirstLaws.{concat_snoc, pieces_first}
use Rattle.laws.proofs.EachLaws.{each_append, each_of, each_map, each_mapped, each_concat}
use Rattle.laws.proofs.LinkedLaws.{filled_left, linked_filled, pieces_linked, linked_parts}
use Rattle.format4_cutting.specs.declared.Segment.{Segment}
use Rattle.format4_cutting.specs.Steps.{entries, array_from}
use Rattle.format4_cutting.specs.Cutting.{next_code, next_glyph, ranges_of, runs_of, reaches_cost, Cut, cut_of, present, commit_run, cut_runs, cut_range, cuts, first_code, last_code, segment_of, last_end, segments, glyphs, array_of, glyph_array, closing}

-- ---- adjacent code points

pub last_append : (ps qs : List Pair) → Filled qs → last_code (ps ++ qs) ≡ last_code qs
last_append ps [] h = absurd h
last_append [] (q ∷ qs) h = refl
last_append (p ∷ []) (q ∷ qs) h = refl
last_append (p ∷ p' ∷ ps) (q ∷ qs) h = last_append (p' ∷ ps) (q ∷ qs) h

-- as many as there are from the first to the last
linked_last : (ps : List Pair) → Linked next_code ps → last_code ps + 1 ≡ first_code ps + length ps
linked_last [] h = absurd h
linked_last (p ∷ []) h = refl
linked_last (p ∷ q ∷ ps) h = let e = linked_last (q ∷ ps) h.1 in let f = eqb-true q.0 (p.0 + 1) h.0 in omega arith

pub linked_length : (ps : List Pair) → Linked next_code ps → last_code ps + 1 - first_code ps ≡ length ps
linked_length ps h = let e = linked_last ps h in omega arith

-- ---- the pairs of cuts

abbrev pub parts : List Cut → List (List Pair)
parts cs = map (λ (x : Cut). x.pairs) cs

commit_pairs : (cost : ℕ) (earlier : List (List Pair)) (run : List Pair) → concat (parts (commit_run cost earlier run)) ≡ concat earlier ++ run
unfolding commit_run concat
commit_pairs cost earlier run =
    by_pick (λ (cs : List Cut). concat (parts cs) ≡ concat earlier ++ run) (both (present earlier) (both (leb 2 (length run)) (reaches_cost cost run)))
    (cut_of earlier ∷ cut_of (run ∷ []) ∷ []) (cut_of (earlier ++ (run ∷ [])) ∷ [])
    (λ _. rw (append-nil run, append-nil run))
    (λ _. append-nil (concat (earlier ++ (run ∷ []))) ∙ concat_snoc earlier run)

parts-append : (a b : List Cut) → concat (parts (a ++ b)) ≡ concat (parts a) ++ concat (parts b)
parts-append a b = rw (map-append (λ (x : Cut). x.pairs) a b) (concat-append (parts a) (parts b))

runs_pairs : (cost : ℕ) (earlier : List (List Pair)) (run : List Pair) (runs : List (List Pair))
    → concat (parts (cut_runs cost earlier (run ∷ runs))) ≡ concat earlier ++ concat (run ∷ runs)
unfolding cut_runs concat
runs_pairs cost earlier run [] = commit_pairs 8 earlier run ∙ rw (append-nil run)
runs_pairs cost earlier run (next ∷ runs) =
    by_pick (λ (cs : List Cut). concat (parts cs) ≡ concat earlier ++ concat (run ∷ next ∷ runs)) (reaches_cost cost run)
    (commit_run cost earlier run ++ cut_runs 16 [] (next ∷ runs)) (cut_runs 16 (earlier ++ (run ∷ [])) (next ∷ runs))
    (λ _. rw (parts-append (commit_run cost earlier run) (cut_runs 16 [] (next ∷ runs)), commit_pairs cost earlier run, runs_pairs 16 [] next runs)
    (append_assoc (concat earlier) run (concat (next ∷ runs))))
    (λ _. runs_pairs 16 (earlier ++ (run ∷ [])) next runs ∙ rw (concat_snoc earlier run) (append_assoc (concat earlier) run (concat (next ∷ runs))))

range_pairs : (range : List Pair) → concat (parts (cut_range range)) ≡ range
unfolding cut_runs concat
range_pairs [] = unfold pieces in refl
range_pairs (p ∷ range) =
    let f = pieces_first next_glyph p range in
    let e : concat (parts (cut_range (p ∷ range))) ≡ concat (runs_of (p ∷ range)) = rw f.is (runs_pairs 8 [] (p ∷ f.rest) f.others) in
    e ∙ concat-pieces next_glyph (p ∷ range)

ranges_pairs : (ranges : List (List Pair)) → concat (parts (concat (map cut_range ranges))) ≡ concat ranges
unfolding concat
ranges_pairs [] = refl
ranges_pairs (range ∷ ranges) = rw (parts-append (cut_range range) (concat (map cut_range ranges)), range_pairs range, ranges_pairs ranges)

-- the cuts are the pairs in parts
pub cuts_pairs : (ps : List Pair) → concat (parts (cuts ps)) ≡ ps
unfolding cuts
cuts_pairs ps = ranges_pairs (ranges_of ps) ∙ concat-pieces next_code ps

-- ---- what holds of each cut

present_snoc : (runs : List (List Pair)) (run : List Pair) → present (runs ++ (run ∷ [])) ≡ true
present_snoc [] run = refl
present_snoc (r ∷ runs) run = refl

-- what holds of any good runs as one cut holds of each cut that good runs give
module _ (Good : List Pair → Type 0) (P : Cut → Type 0) (f : (runs : List (List Pair)) → present runs ≡ true → Each Good runs → P (cut_of runs)) where
  commit_each : (cost : ℕ) (earlier : List (List Pair)) (run : List Pair) → Each Good earlier → Good run → Each P (commit_run cost earlier run)
  unfolding commit_run
  commit_each cost earlier run h g =
      by_pick (Each P) (both (present earlier) (both (leb 2 (length run)) (reaches_cost cost run))) (cut_of earlier ∷ cut_of (run ∷ []) ∷ []) (cut_of (earlier ++ (run ∷ [])) ∷ [])
      (λ e. (f earlier (both_left (present earlier) _ e) h, (f (run ∷ []) refl (g, tt), tt)))
      (λ _. (f (earlier ++ (run ∷ [])) (present_snoc earlier run) (each_append Good earlier (run ∷ []) h (g, tt)), tt))

  pub runs_each : (cost : ℕ) (earlier runs : List (List Pair)) → Each Good earlier → Each Good runs → Each P (cut_runs cost earlier runs)
  unfolding cut_runs
  runs_each cost earlier [] h g = tt
  runs_each cost earlier (run ∷ []) h g = commit_each 8 earlier run h g.0
  runs_each cost earlier (run ∷ next ∷ runs) h g =
      by_pick (Each P) (reaches_cost cost run) (commit_run cost earlier run ++ cut_runs 16 [] (next ∷ runs)) (cut_runs 16 (earlier ++ (run ∷ [])) (next ∷ runs))
      (λ _. each_append P (commit_run cost earlier run) (cut_runs 16 [] (next ∷ runs)) (commit_each cost earlier run h g.0) (runs_each 16 [] (next ∷ runs) tt g.1))
      (λ _. runs_each 16 (earlier ++ (run ∷ [])) (next ∷ runs) (each_append Good earlier (run ∷ []) h (g.0, tt)) g.1)

pub cuts_each : (P : Cut → Type 0) (ps : List Pair) → Each (λ (range : List Pair). Each P (cut_range range)) (ranges_of ps) → Each P (cuts ps)
unfolding cuts
cuts_each P ps h = each_concat P cut_range (ranges_of ps) h

-- a cut's code points are adjacent, and there is one
abbrev pub Adjacent : Cut → Type 0
Adjacent x = Linked next_code x.pairs

runs_filled : (runs : List (List Pair)) → present runs ≡ true → Each Filled runs → Filled (concat runs)
unfolding concat
runs_filled [] e h = absurd (false-true e)
runs_filled (run ∷ runs) e h = filled_left run (concat runs) h.0

range_adjacent : (range : List Pair) → Linked next_code range → Each Adjacent (cut_range range)
range_adjacent range h =
    let g = each_of (Linked next_glyph) Filled (linked_filled next_glyph) (runs_of range) (pieces_linked next_glyph range) in
    each_mapped (Linked next_code) (λ (x : Cut). x.pairs) (cut_range range)
    (linked_parts next_code (parts (cut_range range))
    (each_map Filled (λ (x : Cut). x.pairs) (cut_range range) (runs_each Filled (λ (x : Cut). Filled x.pairs) runs_filled 8 [] (runs_of range) tt g))
    (rw (range_pairs range) h))

pub cuts_adjacent : (ps : List Pair) → Each Adjacent (cuts ps)
cuts_adjacent ps =
    cuts_each Adjacent ps (each_of (Linked next_code) (λ (range : List Pair). Each Adjacent (cut_range range)) range_adjacent (ranges_of ps) (pieces_linked next_code ps))

-- ---- the last end

last_end_lem : (cs : List Cut) → Each Adjacent cs → last_end (map segment_of cs) ≡ last_code (concat (parts cs))
unfolding concat
last_end_lem [] h = refl
last_end_lem (x ∷ []) h = rw (append-nil x.pairs)
last_end_lem (x ∷ y ∷ cs) h =
    last_end_lem (y ∷ cs) h.1
    ∙ sym (last_append x.pairs (concat (parts (y ∷ cs))) (filled_left y.pairs (concat (parts cs)) (linked_filled next_code y.pairs h.1.0)))

-- the closing segment follows unless the last pair's code point is 0xFFFF
pub segments_closed : (ps : List Pair) → segments ps ≡ map segment_of (cuts ps) ++ closing (not (eqb (last_code ps) 65535))
unfolding segments
segments_closed ps = rw (last_end_lem (cuts ps) (cuts_adjacent ps), cuts_pairs ps)

-- so there is a segment
some_closed : (ss : List Segment) → 1 ≤ length (ss ++ closing (not (eqb (last_end ss) 65535)))
some_closed [] = omega arith
some_closed (x ∷ ss) = omega arith

pub segments_some : (ps : List Pair) → 1 ≤ length (segments ps)
unfolding segments
segments_some ps = some_closed (map segment_of (cuts ps))

-- ---- the glyph array

array_cuts : (cs : List Cut) (gs : List ℕ) (ss : List Segment) → Each Adjacent cs
    → array_from (glyphs (concat (parts cs)) ++ gs) (map segment_of cs ++ ss) ≡ concat (map array_of cs) ++ array_from gs ss
unfolding array_from concat
array_cuts [] gs ss h = refl
array_cuts (x ∷ cs) gs ss h =
    let here = glyphs x.pairs in
    let there = glyphs (concat (parts cs)) ++ gs in
    let n : length here ≡ length x.pairs = length-map x.pairs (λ (p : Pair). p.1) in
    rw (
      linked_length x.pairs h.0,
      map-append (λ (p : Pair). p.1) x.pairs (concat (parts cs)),
      append_assoc here (glyphs (concat (parts cs))) gs,
      take_at here there (length x.pairs) n,
      drop_at here there (length x.pairs) n,
      array_cuts cs gs ss h.1,
    )
    (go (eqb x.delta 0) here (concat (map array_of cs)) (array_from gs ss))
  where
    go : (t : Bool) (a b c : List ℕ) → pick t (a ++ (b ++ c)) (b ++ c) ≡ (pick t a [] ++ b) ++ c
    go true a b c = sym (append_assoc a b c)
    go false a b c = refl

array_closing : (t : Bool) → array_from [] (closing t) ≡ []
unfolding array_from
array_closing true = refl
array_closing false = refl

-- walking the segments over the listed glyphs finds the glyph array
pub array_from_lem : (ps : List Pair) → array_from (glyphs ps) (segments ps) ≡ glyph_array ps
unfolding glyph_array
array_from_lem ps =
    let gs = glyphs (concat (parts (cuts ps))) in
    let t = not (eqb (last_code ps) 65535) in
    rw (segments_closed ps)
    (ap (λ (qs : List Pair). array_from (glyphs qs) (map segment_of (cuts ps) ++ closing t)) (sym (cuts_pairs ps))
    ∙ ap (λ (l : List ℕ). array_from l (map segment_of (cuts ps) ++ closing t)) (sym (append-nil gs))
    ∙ array_cuts (cuts ps) [] (closing t) (cuts_adjacent ps)
    ∙ ap (λ (l : List ℕ). concat (map array_of (cuts ps)) ++ l) (array_closing t)
    ∙ append-nil (concat (map array_of (cuts ps))))

-- ---- how many entries

entries_cuts : (cs : List Cut) (ss : List Segment) → Each Adjacent cs → length (concat (map array_of cs)) + entries ss ≡ entries (map segment_of cs ++ ss)
unfolding concat
entries_cuts [] ss h = zero-add (entries ss)
entries_cuts (x ∷ cs) ss h =
    rw (length-append (array_of x) (concat (map array_of cs)), ← entries_cuts cs ss h.1, linked_length x.pairs h.0)
    (go (eqb x.delta 0) (glyphs x.pairs) (length x.pairs) (length (concat (map array_of cs))) (length-map x.pairs (λ (p : Pair). p.1)))
  where
    go : (t : Bool) (gs : List ℕ) (n k : ℕ) → length gs ≡ n → length (pick t gs []) + k + entries ss ≡ pick t n 0 + (k + entries ss)
    go true gs n k e = omega arith
    go false gs n k e = omega arith

entries-closing : (t : Bool) → entries (closing t) ≡ 0
entries-closing true = refl
entries-closing false = refl

pub length_array : (ps : List Pair) → length (glyph_array ps) ≡ entries (segments ps)
unfolding glyph_array
length_array ps =
    let t = not (eqb (last_code ps) 65535) in
    let e = entries_cuts (cuts ps) (closing t) (cuts_adjacent ps) in
    rw segments_closed (omega (arith, entries-closing t))
