-- Lone points are a segment each: 8,188 of them make 65,528 bytes, and 8,189 are too long.
use Prim.Native.Nat.{ℕ, zero, suc, ◌+◌, ◌*◌, ◌≤◌, ◌<◌}
use mathlib.Core.Path.{◌≡◌, refl, ap, ◌∙◌}
use mathlib.Core.List.{List, [], ◌∷◌, ◌++◌, map}
use mathlib.Core.Bool.{true}
use native.Mathlib.Omega.{arith}
use borrow.Author.Tests.{le-leb, lt-leb, eq-eqb, ne_eqb}
use lib.ListN.{length, length-append, length-map}
use Rattle.laws.specs.Lists.{Pair}
use Rattle.format4_cutting.specs.Steps.{begun, commit, step, finish, to_list, cut_from, entries}
use Rattle.format4_cutting.specs.Cutting.{segments, pair_delta, closing, entries_of}
use Rattle.format4_cutting.proofs.CuttingLaws.{length_array}
use Rattle.format4_cutting.proofs.WalkLaws.{walk_cuts}
use Rattle.format4.specs.Format4.{format4}
use Rattle.format4.specs.declared.Size4.TheVariants.{TooLong, Fits}
use Rattle.format4.specs.Size.{size_of4, count_of, length_of4}
use Rattle.format4.proofs.Format4Laws.{length-format4}
use Rattle.format4_lookup.specs.Lone.{LonePoint, Lone, alone, spaced}

commit-alone : (p : Pair) → to_list (commit (begun p.0 p.1) 8) ≡ alone p ∷ []
unfolding commit
commit-alone p = rw (eq-eqb p.0 p.0 refl)

walk_lone : (p : Pair) (ps : List Pair) → Lone (p ∷ ps) → cut_from (begun p.0 p.1) ps ≡ map alone (p ∷ ps) ++ closing true
unfolding cut_from step finish
walk_lone p [] h = rw (commit-alone p, ne_eqb p.0 65535 (λ e. omega (arith, h.low)))
walk_lone p (q ∷ ps) h = rw (ne_eqb q.0 (p.0 + 1) h.1.0, commit-alone p, walk_lone q ps h.1.1)

segments_lone : (ps : List Pair) → Lone ps → segments ps ≡ map alone ps ++ closing true
unfolding cut_from step finish
segments_lone [] h = walk_cuts []
segments_lone (p ∷ ps) h = walk_cuts (p ∷ ps) ∙ walk_lone p ps h

entries_alone : (p : Pair) → LonePoint p → entries_of (alone p) ≡ 0
entries_alone p h = rw (ne_eqb (pair_delta p.0 p.1) 0 h.turns)

entries_lone : (ps : List Pair) → Lone ps → entries (map alone ps ++ closing true) ≡ 0
entries_lone [] h = refl
entries_lone (p ∷ []) h = rw (entries_alone p h)
entries_lone (p ∷ q ∷ ps) h = rw (entries_alone p h.0, entries_lone (q ∷ ps) h.1.1)

module _ (ps : List Pair) (h : Lone ps) where
  -- a segment each, the closing one, and no array
  pub length_lone : (language : ℕ) → length (format4 language ps) ≡ 24 + 8 * length ps
  length_lone language =
      let s = ap length (segments_lone ps h) ∙ length-append (map alone ps) (closing true) in
      let a = length_array ps ∙ ap entries (segments_lone ps h) ∙ entries_lone ps h in
      omega (arith, length-format4 language ps, length-map ps alone)

  pub lone_longest : (language : ℕ) → length ps ≡ 8188 → length (format4 language ps) ≡ 65528
  lone_longest language n = omega (arith, length_lone language)

  pub lone_short : (language : ℕ) → length ps ≤ 8188 → length (format4 language ps) ≤ 65535
  lone_short language n = omega (arith, length_lone language)

-- too long whatever the room
pub lone_too_long : (ps : List Pair) → Lone ps → 8189 ≤ length ps → size_of4 ps ≡ TooLong
unfolding size_of4
lone_too_long [] h n = absurd (omega arith)
lone_too_long (p ∷ ps) h n = rw (lt-leb (length_of4 (count_of (p ∷ ps))) 65535 (omega (arith, length-format4 0 (p ∷ ps), length_lone (p ∷ ps) h 0)))

pub lone_fits : (ps : List Pair) → Lone ps → 1 ≤ length ps → length ps ≤ 8188 → size_of4 ps ≡ Fits (count_of ps)
unfolding size_of4
lone_fits [] h m n = absurd (omega arith)
lone_fits (p ∷ ps) h m n = rw (le-leb (length_of4 (count_of (p ∷ ps))) 65535 (omega (arith, length-format4 0 (p ∷ ps), length_lone (p ∷ ps) h 0)))

-- ---- such points

length-spaced : (i n : ℕ) → length (spaced i n) ≡ n
length-spaced i zero = refl
length-spaced i (suc n) = ap suc (length-spaced (suc i) n)

point_spaced : (i : ℕ) → 2 * i < 65535 → LonePoint (2 * i, 1)
point_spaced i h = record { low = h; turns = λ e. omega arith }

spaced_lone : (i n : ℕ) → 2 * (i + n) ≤ 65535 → Lone (spaced i n)
spaced_lone i zero h = tt
spaced_lone i (suc zero) h = point_spaced i (omega arith)
spaced_lone i (suc (suc n)) h = (point_spaced i (omega arith), ((λ e. omega arith), spaced_lone (suc i) (suc n) (omega arith)))

pub border_fits : (language : ℕ) → length (format4 language (spaced 0 8188)) ≡ 65528
border_fits language = lone_longest (spaced 0 8188) (spaced_lone 0 8188 (omega arith)) language (length-spaced 0 8188)

pub border_too_long : size_of4 (spaced 0 8189) ≡ TooLong
border_too_long = lone_too_long (spaced 0 8189) (spaced_lone 0 8189 (omega arith)) (omega (arith, length-spaced 0 8189))
