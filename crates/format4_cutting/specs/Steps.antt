-- Inner: what the functions of this crate hand to each other and to those that walk with a range state; no promise of a size or of
-- bytes names it. That a walk cuts as Cutting.antt says is walk_cuts.
use Rattle.std.specs.Prelude.{ℕ, ◌+◌, ◌-◌, ◌*◌, List, [], ◌∷◌, ◌++◌, Bool, true, false, not, ltb, leb, eqb, take, drop}
use Rattle.laws.specs.Choice.{pick, both}
use Rattle.laws.specs.Lists.{Pair}
use Rattle.format4_cutting.specs.declared.Segment.{Segment}
use Rattle.format4_cutting.specs.declared.Committed.{Committed}
use Rattle.format4_cutting.specs.declared.Committed.TheVariants.{None, One, Two}
use Rattle.format4_cutting.specs.declared.RangeState.{RangeState}
use Rattle.format4_cutting.specs.declared.Absorbed.{Absorbed}
use Rattle.format4_cutting.specs.declared.Finished.{Finished}
use Rattle.format4_cutting.specs.Cutting.{pair_delta, seg, closing, points, entries_of}

-- no range is running
abbrev pub idle : RangeState
idle = record { running = false; later = false; start = 0; prev = 0; prevdelta = 0; run = 0; delta = 0; end = 0; glyph = 0 }

-- a range of one code point, its first run
abbrev pub begun : ℕ → ℕ → RangeState
begun c g = record { running = true; later = false; start = c; prev = c; prevdelta = 0; run = c; delta = pair_delta c g; end = c; glyph = g }

-- the run goes on up to c
abbrev pub grown : RangeState → ℕ → ℕ → RangeState
grown s c g = record { running = s.running; later = s.later; start = s.start; prev = s.prev; prevdelta = s.prevdelta; run = s.run; delta = s.delta; end = c; glyph = g }

-- the range goes on with a new run at c; what is not committed starts at a
abbrev pub turned : RangeState → ℕ → ℕ → ℕ → RangeState
turned s a c g = record { running = true; later = true; start = a; prev = s.run; prevdelta = s.delta; run = c; delta = pair_delta c g; end = c; glyph = g }

-- what the running run has to reach while the range goes on
abbrev pub cost_of : RangeState → ℕ
cost_of s = pick s.later 16 8

-- twice the running run's length reaches the cost
unfoldable pub pays : RangeState → ℕ → Bool
pays s cost = leb cost (2 * (s.end + 1 - s.run))

-- all that is not committed, as one segment
abbrev pub whole : RangeState → ℕ → Segment
whole s d = seg s.start s.end d

-- two segments are written: the running run is not alone, has two pairs or more, and reaches the cost
abbrev pub splits : RangeState → ℕ → Bool
splits s cost = both (ltb s.start s.run) (both (ltb s.run s.end) (pays s cost))

-- the part before the running run, with the delta of the run before if it is that run alone
abbrev pub earlier : RangeState → Segment
earlier s = seg s.start (s.run - 1) (pick (eqb s.start s.prev) s.prevdelta 0)

abbrev pub the_run : RangeState → Segment
the_run s = seg s.run s.end s.delta

-- what is not committed yet, as one or two segments
unfoldable pub commit : RangeState → ℕ → Committed
commit s cost =
    pick (eqb s.start s.run)
    (One (whole s s.delta))
    (pick (splits s cost) (Two (earlier s) (the_run s)) (One (whole s 0)))

abbrev pub absorbed : RangeState → Committed → Absorbed
absorbed s o = record { state = s; out = o }

-- one pair
unfoldable pub step : RangeState → ℕ → ℕ → Absorbed
step s c g =
    pick s.running
    (pick (eqb c (s.end + 1))
    (pick (eqb g (s.glyph + 1))
    (absorbed (grown s c g) None)
    (pick (pays s (cost_of s))
    (absorbed (turned s c c g) (commit s (cost_of s)))
    (absorbed (turned s s.start c g) None)))
    (absorbed (begun c g) (commit s 8)))
    (absorbed (begun c g) None)

unfoldable pub finish : RangeState → Finished
finish s =
    pick s.running
    (record { out = commit s 8; close = not (eqb s.end 65535) })
    (record { out = None; close = true })

-- ---- the whole list

abbrev pub to_list : Committed → List Segment
to_list None = []
to_list (One a) = a ∷ []
to_list (Two a b) = a ∷ b ∷ []

-- what is still to be written where the pairs before those listed led to the state s
unfoldable pub cut_from : RangeState → List Pair → List Segment
cut_from s [] = to_list (finish s).out ++ closing (finish s).close
cut_from s (p ∷ ps) = to_list (step s p.0 p.1).out ++ cut_from (step s p.0 p.1).state ps

-- how many entries of the glyph array segments have
abbrev pub entries : List Segment → ℕ
entries [] = 0
entries (s ∷ ss) = entries_of s + entries ss

-- the glyph array found segment by segment: each takes the glyphs of its code points off those that are listed
unfoldable pub array_from : List ℕ → List Segment → List ℕ
array_from gs [] = []
array_from gs (x ∷ xs) = pick (eqb x.delta 0) (take (points x) gs ++ array_from (drop (points x) gs) xs) (array_from (drop (points x) gs) xs)
