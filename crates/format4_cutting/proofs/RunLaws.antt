-- A walk that goes run by run: the first pair of a run is absorbed, and the state grows to its last at once.
use Prim.Native.Nat.{ℕ, ◌+◌, ◌-◌, ◌<◌}
use native.Mathlib.Omega.{arith}
use mathlib.Core.Path.{◌≡◌, refl, ◌∙◌}
use mathlib.Core.List.{List, ◌++◌}
use mathlib.Core.Bool.{Bool, true, false}
use lib.Dec.{eqb}
use lib.ListN.{length, get_or, drop}
use borrow.Author.Tests.{eq-eqb}
use Rattle.laws.specs.Choice.{pick}
use Rattle.laws.specs.Lists.{pairs}
use Rattle.laws.proofs.ChoiceLaws.{by_pick}
use Rattle.lists_runs.specs.Runs.{RunEndsAt}
use Rattle.lists_runs.proofs.EndLaws.{Next, run_along}
use Rattle.format4_cutting.specs.declared.RangeState.{RangeState}
use Rattle.format4_cutting.specs.declared.Committed.TheVariants.{None}
use Rattle.format4_cutting.specs.declared.Absorbed.{Absorbed}
use Rattle.format4_cutting.specs.Steps.{begun, grown, turned, absorbed, cost_of, pays, commit, step, to_list, cut_from}
use Rattle.format4_cutting.proofs.StepsLaws.{walk_step}

-- the last pair of the running run
record Last (c g : ℕ) (s : RangeState) : Type 0 where
  pub running : s.running ≡ true
  pub end : s.end ≡ c
  pub glyph : s.glyph ≡ g

last_pick : (c g : ℕ) (t : Bool) (a b : Absorbed) → Last c g a.state → Last c g b.state → Last c g (pick t a b).state
last_pick c g true a b p q = p
last_pick c g false a b p q = q

step_last : (s : RangeState) (c g : ℕ) → Last c g (step s c g).state
unfolding step
step_last s c g =
    let cost = cost_of s in
    let begin = absorbed (begun c g) (commit s 8) in
    let grow = absorbed (grown s c g) None in
    let take = absorbed (turned s c c g) (commit s cost) in
    let wait = absorbed (turned s s.start c g) None in
    let turn = pick (pays s cost) take wait in
    let on = pick (eqb g (s.glyph + 1)) grow turn in
    by_pick (λ (a : Absorbed). Last c g a.state) s.running (pick (eqb c (s.end + 1)) on begin) (absorbed (begun c g) None)
    (λ r. last_pick c g (eqb c (s.end + 1)) on begin
    (last_pick c g (eqb g (s.glyph + 1)) grow turn
    (record { running = r; end = refl; glyph = refl })
    (last_pick c g (pays s cost) take wait (record { running = refl; end = refl; glyph = refl }) (record { running = refl; end = refl; glyph = refl })))
    (record { running = refl; end = refl; glyph = refl }))
    (λ r. record { running = refl; end = refl; glyph = refl })

-- a pair that goes on commits nothing
step_on : (s : RangeState) (c g : ℕ) → s.running ≡ true → c ≡ s.end + 1 → g ≡ s.glyph + 1 → step s c g ≡ absorbed (grown s c g) None
unfolding step
step_on s c g r p q = rw (eq-eqb c (s.end + 1) p, eq-eqb g (s.glyph + 1) q, r)

module _ (cs gs : List ℕ) (even : length cs ≡ length gs) where
  -- what is left behind a run's first pair is what is left behind its last
  run_left : (s : RangeState) (i e : ℕ) → RunEndsAt cs gs i e → Last (get_or cs i 0) (get_or gs i 0) s
      → cut_from s (pairs (drop (i + 1) cs) (drop (i + 1) gs)) ≡ cut_from (grown s (get_or cs (e - 1) 0) (get_or gs (e - 1) 0)) (pairs (drop e cs) (drop e gs))
  run_left s i e r l =
      let z : e - 1 + 1 ≡ e = omega (arith, r.behind) in
      rw z at (run_along cs gs i e P r (rw (← l.end, ← l.glyph)) on)
    where
      P : ℕ → Type 0
      P k = cut_from s (pairs (drop (i + 1) cs) (drop (i + 1) gs)) ≡ cut_from (grown s (get_or cs k 0) (get_or gs k 0)) (pairs (drop (k + 1) cs) (drop (k + 1) gs))

      on : (k : ℕ) → k + 1 < e → Next cs gs k → P k → P (k + 1)
      on k h n p =
          let b : k + 1 < length cs = omega (arith, r.within) in
          let t = step_on (grown s (get_or cs k 0) (get_or gs k 0)) (get_or cs (k + 1) 0) (get_or gs (k + 1) 0) l.running n.code n.glyph in
          p ∙ rw t at (walk_step (grown s (get_or cs k 0) (get_or gs k 0)) cs gs (k + 1) b (omega (arith, even)))

-- one turn of such a walk: what is left at i is what the pair at i commits, and what is left behind the run
pub run_turn : (cs gs : List ℕ) (s : RangeState) (i : ℕ) (a : Absorbed) (e : ℕ) (t : RangeState) → length cs ≡ length gs
    → a ≡ step s (get_or cs i 0) (get_or gs i 0) → RunEndsAt cs gs i e → t ≡ grown a.state (get_or cs (e - 1) 0) (get_or gs (e - 1) 0)
    → cut_from s (pairs (drop i cs) (drop i gs)) ≡ to_list a.out ++ cut_from t (pairs (drop e cs) (drop e gs))
run_turn cs gs s i a e t even p r u =
    let h : i < length cs = omega (arith, r.behind, r.within) in
    let l : Last (get_or cs i 0) (get_or gs i 0) a.state = rw p (step_last s (get_or cs i 0) (get_or gs i 0)) in
    rw (u, ← run_left cs gs even a.state i e r l, p) (walk_step s cs gs i h (omega (arith, even)))
