-- The walk pair by pair (Steps.antt) writes the segments of the cutting by ranges and runs (Cutting.antt).
use Prim.Native.Nat.{ℕ, suc, ◌+◌, ◌-◌, ◌<◌}
use native.Mathlib.Omega.{arith}
use mathlib.Core.Path.{◌≡◌, refl, sym, ◌∙◌, ap}
use mathlib.Core.List.{List, [], ◌∷◌, ◌++◌, map, map-append, append_assoc, append-nil}
use mathlib.Core.Bool.{Bool, true, false, not}
use lib.Dec.{eqb, leb, ltb}
use lib.ListN.{length}
use borrow.Author.Tests.{eq-eqb, ne_eqb, lt-ltb, eqb-true}
use Rattle.laws.specs.Choice.{pick, both}
use Rattle.laws.specs.Lists.{Pair}
use Rattle.laws.specs.Pieces.{pieces, concat}
use Rattle.laws.proofs.ChoiceLaws.{by_pick, leb_same}
use Rattle.laws.proofs.PiecesLaws.{Joined, lone, more, joined_snoc, pieces_joined, pieces_all}
use Rattle.laws.proofs.PiecesFirstLaws.{concat_snoc, pieces_first, pieces_on}
use Rattle.format4_cutting.specs.declared.Segment.{Segment}
use Rattle.format4_cutting.specs.declared.RangeState.{RangeState}
use Rattle.format4_cutting.specs.declared.Absorbed.{Absorbed}
use Rattle.format4_cutting.specs.declared.Committed.TheVariants.{None, One, Two}
use Rattle.format4_cutting.specs.Steps.{idle, begun, grown, turned, absorbed, pays, commit, step, finish, to_list, cut_from}
use Rattle.format4_cutting.specs.Cutting.{next_code, next_glyph, ranges_of, runs_of, reaches_cost, Cut, lone_delta, cut_of, commit_run, cut_runs, cut_range, cuts, last_code, segment_of, segments, pair_delta, seg, closing}
use Rattle.format4_cutting.proofs.CuttingLaws.{last_append, segments_closed}

-- ---- a run as the walk has gathered it: from x to l

last_joined : {x l : Pair} {xs : List Pair} → Joined next_code x xs l → last_code (x ∷ xs) ≡ l.0
last_joined lone = refl
last_joined (more e j) = last_joined j

length_joined : {x l : Pair} {xs : List Pair} → Joined next_code x xs l → l.0 + 1 ≡ x.0 + length (x ∷ xs)
length_joined lone = refl
length_joined {x} (more {y = y} e j) = let f = length_joined j in let g = eqb-true y.0 (x.0 + 1) e in omega arith

-- the state of a walk whose running run goes from x to l
abbrev at : Bool → ℕ → ℕ → ℕ → Pair → Pair → RangeState
at later start prev prevdelta x l =
    record { running = true; later = later; start = start; prev = prev; prevdelta = prevdelta; run = x.0; delta = pair_delta x.0 x.1; end = l.0; glyph = l.1 }

-- the earlier runs that are not committed lie from start to just before b
record Before (start prev prevdelta : ℕ) (earlier : List (List Pair)) (b : ℕ) : Type 0 where
  pub head : Pair
  pub tail : List Pair
  pub is : concat earlier ≡ head ∷ tail
  pub first : head.0 ≡ start
  pub last : last_code (head ∷ tail) + 1 ≡ b
  pub below : start < b
  pub delta_is : pick (eqb start prev) prevdelta 0 ≡ lone_delta earlier

abbrev Earlier : ℕ → ℕ → ℕ → List (List Pair) → ℕ → Type 0
Earlier start prev prevdelta [] b = start ≡ b
Earlier start prev prevdelta (run ∷ runs) b = Before start prev prevdelta (run ∷ runs) b

-- ---- a commit

lone_snoc : (e : List Pair) (es : List (List Pair)) (run : List Pair) → lone_delta ((e ∷ es) ++ (run ∷ [])) ≡ 0
lone_snoc e [] run = refl
lone_snoc e (f ∷ es) run = refl

module _ (later : Bool) (start prev prevdelta : ℕ) {x l : Pair} {xs : List Pair} (j : Joined next_code x xs l) where
  abbrev s : RangeState
  s = at later start prev prevdelta x l

  abbrev run : List Pair
  run = x ∷ xs

  pays_is : (cost : ℕ) → pays s cost ≡ reaches_cost cost run
  unfolding pays
  pays_is cost =
      let n = length_joined j in
      let k : l.0 + 1 - x.0 ≡ suc (length xs) = omega arith in
      rw k

  two_is : ltb x.0 l.0 ≡ leb 2 (length run)
  two_is = let n = length_joined j in leb_same (suc x.0) l.0 2 (suc (length xs)) (λ h. omega arith) (λ h. omega arith)

  lone_is : segment_of (cut_of (run ∷ [])) ≡ seg x.0 l.0 (pair_delta x.0 x.1)
  unfolding concat
  lone_is = rw (append-nil xs, last_joined j)

  commit_is : (cost : ℕ) (earlier : List (List Pair)) → Earlier start prev prevdelta earlier x.0
      → to_list (commit s cost) ≡ map segment_of (commit_run cost earlier run)
  unfolding commit commit_run
  commit_is cost [] b = rw (eq-eqb start x.0 b, lone_is, b)
  commit_is cost (e ∷ es) b =
      rw (ne_eqb start x.0 (λ z. let h = b.below in omega arith), lt-ltb start x.0 b.below, two_is, pays_is cost)
      (go (both (leb 2 (length run)) (reaches_cost cost run)))
    where
      part_is : segment_of (cut_of (e ∷ es)) ≡ seg start (x.0 - 1) (pick (eqb start prev) prevdelta 0)
      part_is =
          let k : last_code (b.head ∷ b.tail) ≡ x.0 - 1 = let h = b.last in omega arith in
          rw (b.is, k, b.first, b.delta_is)

      whole_is : segment_of (cut_of ((e ∷ es) ++ (run ∷ []))) ≡ seg start l.0 0
      whole_is = rw (concat_snoc (e ∷ es) run, lone_snoc e es run, b.is, last_append (b.head ∷ b.tail) (x ∷ xs) tt, last_joined j, b.first)

      go : (t : Bool)
          → to_list (pick t (Two (seg start (x.0 - 1) (pick (eqb start prev) prevdelta 0)) (seg x.0 l.0 (pair_delta x.0 x.1))) (One (seg start l.0 0)))
          ≡ map segment_of (pick t (cut_of (e ∷ es) ∷ cut_of (run ∷ []) ∷ []) (cut_of ((e ∷ es) ++ (run ∷ [])) ∷ []))
      go true = rw (part_is, lone_is)
      go false = rw whole_is

-- the earlier runs when the running one joins them and p follows
earlier_snoc : (start prev prevdelta : ℕ) (earlier : List (List Pair)) {x l : Pair} {xs : List Pair} (p : Pair) → Joined next_code x xs l → p.0 ≡ l.0 + 1
    → Earlier start prev prevdelta earlier x.0 → Earlier start x.0 (pair_delta x.0 x.1) (earlier ++ ((x ∷ xs) ∷ [])) p.0
unfolding concat
earlier_snoc start prev prevdelta [] {x} {l} {xs} p j e b =
    let n = length_joined j in
    record {
      head = x;
      tail = xs;
      is = append-nil (x ∷ xs);
      first = sym b;
      last = rw (last_joined j) (sym e);
      below = omega arith;
      delta_is = rw (eq-eqb start x.0 b);
    }
earlier_snoc start prev prevdelta (r ∷ rs) {x} {l} {xs} p j e b =
    let n = length_joined j in
    let h = b.below in
    record {
      head = b.head;
      tail = b.tail ++ (x ∷ xs);
      is = concat_snoc (r ∷ rs) (x ∷ xs) ∙ ap (λ (ps : List Pair). ps ++ (x ∷ xs)) b.is;
      first = b.first;
      last = rw (last_append (b.head ∷ b.tail) (x ∷ xs) tt, last_joined j) (sym e);
      below = omega arith;
      delta_is = rw (ne_eqb start x.0 (λ z. omega arith), lone_snoc r rs (x ∷ xs));
    }

-- ---- the rest of the pairs

-- what is left of ranges, the first of them begun
abbrev cuts_from : ℕ → List (List Pair) → List (List Pair) → List Cut
cuts_from cost earlier [] = []
cuts_from cost earlier (range ∷ ranges) = cut_runs cost earlier (runs_of range) ++ concat (map cut_range ranges)

cuts_from_lem : (ranges : List (List Pair)) → concat (map cut_range ranges) ≡ cuts_from 8 [] ranges
unfolding concat
cuts_from_lem [] = refl
cuts_from_lem (range ∷ ranges) = refl

module _ (cost : ℕ) (earlier : List (List Pair)) {x l : Pair} {xs : List Pair} (jc : Joined next_code x xs l) (jg : Joined next_glyph x xs l) where
  cuts_end : cuts_from cost earlier (ranges_of ((x ∷ xs) ++ [])) ≡ commit_run 8 earlier (x ∷ xs)
  unfolding concat cut_runs
  cuts_end = rw (append-nil xs, pieces_all next_code jc, pieces_all next_glyph jg) (append-nil (commit_run 8 earlier (x ∷ xs)))

  -- a pair that is not adjacent ends the range
  cuts_jump : (p : Pair) (ps : List Pair) → next_code l p ≡ false
      → cuts_from cost earlier (ranges_of ((x ∷ xs) ++ (p ∷ ps))) ≡ commit_run 8 earlier (x ∷ xs) ++ cuts_from 8 [] (ranges_of (p ∷ ps))
  unfolding cut_runs
  cuts_jump p ps e = rw (pieces_joined next_code p ps jc e, pieces_all next_glyph jg, cuts_from_lem (ranges_of (p ∷ ps)))

  -- an adjacent one whose glyph is not ends the run
  cuts_turn : (p : Pair) (ps : List Pair) → next_code l p ≡ true → next_glyph l p ≡ false
      → cuts_from cost earlier (ranges_of ((x ∷ xs) ++ (p ∷ ps)))
      ≡ pick (reaches_cost cost (x ∷ xs)) (commit_run cost earlier (x ∷ xs) ++ cuts_from 16 [] (ranges_of (p ∷ ps))) (cuts_from 16 (earlier ++ ((x ∷ xs) ∷ [])) (ranges_of (p ∷ ps)))
  unfolding cut_runs
  cuts_turn p ps e f =
      let a = pieces_first next_code p ps in
      let b = pieces_first next_glyph p a.rest in
      let runs = (p ∷ b.rest) ∷ b.others in
      rw (pieces_on next_code p ps jc e, a.is, pieces_joined next_glyph p a.rest jg f, b.is)
      (go (reaches_cost cost (x ∷ xs)) (commit_run cost earlier (x ∷ xs)) (cut_runs 16 [] runs) (cut_runs 16 (earlier ++ ((x ∷ xs) ∷ [])) runs) (concat (map cut_range a.others)))
    where
      go : (t : Bool) (a b c d : List Cut) → pick t (a ++ b) c ++ d ≡ pick t (a ++ (b ++ d)) (c ++ d)
      go true a b c d = append_assoc a b d
      go false a b c d = refl

-- the walk over ps goes on with what the definition makes of the earlier runs, the running one and ps
abbrev Walks : List Pair → Type 0
Walks ps =
    (later : Bool) (start prev prevdelta : ℕ) (earlier : List (List Pair)) (x l : Pair) (xs : List Pair)
    → Joined next_code x xs l → Joined next_glyph x xs l → Earlier start prev prevdelta earlier x.0
    → cut_from (at later start prev prevdelta x l) ps
    ≡ map segment_of (cuts_from (pick later 16 8) earlier (ranges_of ((x ∷ xs) ++ ps))) ++ closing (not (eqb (last_code (l ∷ ps)) 65535))

-- a commit and what follows it
commit_then : (a b : List Cut) (out rest ends : List Segment) → out ≡ map segment_of a → rest ≡ map segment_of b ++ ends → out ++ rest ≡ map segment_of (a ++ b) ++ ends
commit_then a b out rest ends e f = rw (e, f, map-append segment_of a b) (sym (append_assoc (map segment_of a) (map segment_of b) ends))

walks_end : Walks []
unfolding cut_from finish
walks_end later start prev prevdelta earlier x l xs jc jg b = rw (commit_is later start prev prevdelta jc 8 earlier b, cuts_end (pick later 16 8) earlier jc jg)

module _ (p : Pair) (ps : List Pair) (w : Walks ps) where
  walks_on : Walks (p ∷ ps)
  unfolding cut_from step
  walks_on later start prev prevdelta earlier x l xs jc jg b =
      let s = at later start prev prevdelta x l in
      let cost : ℕ = pick later 16 8 in
      let ends = closing (not (eqb (last_code (p ∷ ps)) 65535)) in
      let P : Absorbed → Type 0 = λ o. to_list o.out ++ cut_from o.state ps ≡ map segment_of (cuts_from cost earlier (ranges_of ((x ∷ xs) ++ (p ∷ ps)))) ++ ends in
      let begin = absorbed (begun p.0 p.1) (commit s 8) in
      let grow = absorbed (grown s p.0 p.1) None in
      let take = absorbed (turned s p.0 p.0 p.1) (commit s cost) in
      let wait = absorbed (turned s start p.0 p.1) None in
      let turn = pick (pays s cost) take wait in
      by_pick P (next_code l p) (pick (next_glyph l p) grow turn) begin
      (λ e. by_pick P (next_glyph l p) grow turn
      (λ f. rw (append_assoc xs (p ∷ []) ps) at (w later start prev prevdelta earlier x p (xs ++ (p ∷ [])) (joined_snoc next_code p jc e) (joined_snoc next_glyph p jg f) b))
      (λ f. by_pick P (pays s cost) take wait
      (λ t. rw (cuts_turn cost earlier jc jg p ps e f, ← pays_is later start prev prevdelta jc cost, t)
      (commit_then (commit_run cost earlier (x ∷ xs)) (cuts_from 16 [] (ranges_of (p ∷ ps))) _ _ ends
      (commit_is later start prev prevdelta jc cost earlier b) (w true p.0 x.0 (pair_delta x.0 x.1) [] p p [] lone lone refl)))
      (λ t. rw (cuts_turn cost earlier jc jg p ps e f, ← pays_is later start prev prevdelta jc cost, t)
      (w true start x.0 (pair_delta x.0 x.1) (earlier ++ ((x ∷ xs) ∷ [])) p p [] lone lone
      (earlier_snoc start prev prevdelta earlier p jc (eqb-true p.0 (l.0 + 1) e) b)))))
      (λ e. rw (cuts_jump cost earlier jc jg p ps e)
      (commit_then (commit_run 8 earlier (x ∷ xs)) (cuts_from 8 [] (ranges_of (p ∷ ps))) _ _ ends
      (commit_is later start prev prevdelta jc 8 earlier b) (w false p.0 p.0 0 [] p p [] lone lone refl)))

walks : (ps : List Pair) → Walks ps
walks [] = walks_end
walks (p ∷ ps) = walks_on p ps (walks ps)

-- for every list of pairs, rising or not
pub walk_cuts : (ps : List Pair) → segments ps ≡ cut_from idle ps
unfolding cut_from step finish segments cuts
walk_cuts [] = unfold concat pieces in refl
walk_cuts (p ∷ ps) = segments_closed (p ∷ ps) ∙ rw (cuts_from_lem (ranges_of (p ∷ ps))) (sym (walks ps false p.0 p.0 0 [] p p [] lone lone refl))
