-- The cutting of a list of pairs into the segments of a format 4 subtable, as docs/RULES.md tells it ("Format 4"): ranges, the
-- runs inside them, and which runs are committed together. The code goes pair by pair; that it gives the same is walk_cuts.
use Rattle.std.specs.Prelude.{ℕ, ◌+◌, ◌-◌, ◌*◌, ◌%◌, List, [], ◌∷◌, ◌++◌, map, Bool, true, false, not, leb, eqb, length}
use Rattle.laws.specs.Choice.{pick, both}
use Rattle.laws.specs.Lists.{Pair}
use Rattle.laws.specs.Pieces.{pieces, concat}
use Rattle.format4_cutting.specs.declared.Segment.{Segment}

-- ---- ranges and runs

abbrev pub next_code : Pair → Pair → Bool
next_code p q = eqb q.0 (p.0 + 1)

abbrev pub next_glyph : Pair → Pair → Bool
next_glyph p q = eqb q.1 (p.1 + 1)

-- code points that follow one another
abbrev pub ranges_of : List Pair → List (List Pair)
ranges_of ps = pieces next_code ps

-- glyphs that follow one another, inside a range
abbrev pub runs_of : List Pair → List (List Pair)
runs_of range = pieces next_glyph range

-- twice the run's length reaches the cost
abbrev pub reaches_cost : ℕ → List Pair → Bool
reaches_cost cost run = leb cost (2 * length run)

-- ---- what a range is cut into

-- adjacent code points that become one segment, and its delta
pub record Cut : Type 0 where
  pub pairs : List Pair
  pub delta : ℕ

-- the delta of a code point and its glyph
abbrev pub pair_delta : ℕ → ℕ → ℕ
pair_delta c g = (g + 65536 - c) % 65536

-- that of a run's first pair is that of all its pairs
abbrev pub run_delta : List Pair → ℕ
run_delta [] = 0
run_delta (p ∷ run) = pair_delta p.0 p.1

-- one run gives its delta, several give 0
abbrev pub lone_delta : List (List Pair) → ℕ
lone_delta [] = 0
lone_delta (run ∷ []) = run_delta run
lone_delta (run ∷ next ∷ runs) = 0

-- runs that become one segment
abbrev pub cut_of : List (List Pair) → Cut
cut_of runs = record { pairs = concat runs; delta = lone_delta runs }

-- there are runs
abbrev pub present : List (List Pair) → Bool
present [] = false
present (run ∷ runs) = true

-- To commit: two segments, the earlier runs and the run, if there are earlier ones and the run has two pairs or more and reaches the
-- cost; else one.
unfoldable pub commit_run : ℕ → List (List Pair) → List Pair → List Cut
commit_run cost earlier run =
    pick (both (present earlier) (both (leb 2 (length run)) (reaches_cost cost run)))
    (cut_of earlier ∷ cut_of (run ∷ []) ∷ [])
    (cut_of (earlier ++ (run ∷ [])) ∷ [])

-- What is left of a range: the earlier runs are not committed yet, and the cost is that of the next run, 8 for the range's first and
-- 16 for each later one. The end of the range commits in any case, at cost 8; where it goes on, a run that does not reach the cost
-- is one of the earlier runs for the next.
unfoldable pub cut_runs : ℕ → List (List Pair) → List (List Pair) → List Cut
cut_runs cost earlier [] = []
cut_runs cost earlier (run ∷ []) = commit_run 8 earlier run
cut_runs cost earlier (run ∷ next ∷ runs) =
    pick (reaches_cost cost run)
    (commit_run cost earlier run ++ cut_runs 16 [] (next ∷ runs))
    (cut_runs 16 (earlier ++ (run ∷ [])) (next ∷ runs))

abbrev pub cut_range : List Pair → List Cut
cut_range range = cut_runs 8 [] (runs_of range)

unfoldable pub cuts : List Pair → List Cut
cuts ps = concat (map cut_range (ranges_of ps))

-- ---- segments

abbrev pub seg : ℕ → ℕ → ℕ → Segment
seg a e d = record { start = a; end = e; delta = d }

abbrev pub first_code : List Pair → ℕ
first_code [] = 0
first_code (p ∷ ps) = p.0

abbrev pub last_code : List Pair → ℕ
last_code [] = 0
last_code (p ∷ []) = p.0
last_code (p ∷ q ∷ ps) = last_code (q ∷ ps)

abbrev pub segment_of : Cut → Segment
segment_of x = seg (first_code x.pairs) (last_code x.pairs) x.delta

-- the last segment's end; 0 where there is none
abbrev pub last_end : List Segment → ℕ
last_end [] = 0
last_end (x ∷ []) = x.end
last_end (x ∷ y ∷ ss) = last_end (y ∷ ss)

abbrev pub closing : Bool → List Segment
closing true = seg 65535 65535 1 ∷ []
closing false = []

-- the closing segment follows unless the last end is 0xFFFF already
abbrev pub closed : List Segment → List Segment
closed ss = ss ++ closing (not (eqb (last_end ss) 65535))

unfoldable pub segments : List Pair → List Segment
unfolding cuts
segments ps = closed (map segment_of (cuts ps))

-- ---- the glyph array

abbrev pub glyphs : List Pair → List ℕ
glyphs ps = map (λ (p : Pair). p.1) ps

-- the glyphs of a segment's code points, if it is of delta 0
abbrev pub array_of : Cut → List ℕ
array_of x = pick (eqb x.delta 0) (glyphs x.pairs) []

unfoldable pub glyph_array : List Pair → List ℕ
unfolding cuts
glyph_array ps = concat (map array_of (cuts ps))

-- how many code points a segment has, and how many entries of the glyph array
abbrev pub points : Segment → ℕ
points x = x.end + 1 - x.start

abbrev pub entries_of : Segment → ℕ
entries_of x = pick (eqb x.delta 0) (points x) 0
