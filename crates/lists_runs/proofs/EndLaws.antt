-- The search for a run's end, and what the end tells of the pairs before it.
use Prim.Native.Nat.{ℕ, zero, suc, ◌+◌, ◌-◌, ◌≤◌, ◌<◌}
use mathlib.Core.Path.{◌≡◌, refl, sym, subst, ◌∙◌}
use mathlib.Core.List.{List}
use mathlib.Core.Logic.{⊎_elim}
use mathlib.Core.Bool.{Bool, true, false, not}
use native.Mathlib.Omega.{arith}
use native.Mathlib.Nat.{eq-or-lt_of_le}
use borrow.Author.Tests.{eqb-true}
use lib.Dec.{eqb}
use lib.ListN.{length, get_or}
use Rattle.laws.specs.Search.{first}
use Rattle.laws.proofs.ChoiceLaws.{false-true, both_left, both_right, by_pick}
use Rattle.laws.proofs.FirstLaws.{first_holds}
use Rattle.laws.proofs.SearchLaws.{Finding, seeking_start, looking_on, looking_found, looking_none}
use Rattle.lists_runs.specs.Runs.{breaks, breaks_at, run_end, RunEndsAt}

-- the pairs behind i go on up to k, and the search from k on finds the run's end
pub record Ending (cs gs : List ℕ) (i k : ℕ) : Type 0 where
  pub further : i < k
  pub search : Finding (breaks_at cs gs) (length cs) k (run_end cs gs i)

module _ (cs gs : List ℕ) (i : ℕ) where
  pub ending_start : i < length cs → Ending cs gs i (i + 1)
  unfolding run_end
  ending_start h = record { further = omega arith; search = seeking_start (breaks_at cs gs) (length cs) (i + 1) (omega arith) }

  -- b is the code's own answer for the pair at k
  module _ (k : ℕ) (l : Ending cs gs i k) where
    pub ending_on : (b : Bool) → k < length cs → b ≡ breaks (get_or cs (k - 1) 0) (get_or gs (k - 1) 0) (get_or cs k 0) (get_or gs k 0) → b ≡ false → Ending cs gs i (k + 1)
    ending_on b h q e = record { further = omega (arith, l.further); search = looking_on l.search h (sym q ∙ e) }

    pub ending_found : (b : Bool) → k < length cs → b ≡ breaks (get_or cs (k - 1) 0) (get_or gs (k - 1) 0) (get_or cs k 0) (get_or gs k 0) → b ≡ true → RunEndsAt cs gs i k
    ending_found b h q e = record { is = looking_found l.search h (sym q ∙ e); behind = l.further; within = l.search.within }

    pub ending_last : length cs ≤ k → RunEndsAt cs gs i k
    ending_last h = record { is = looking_none l.search h; behind = l.further; within = l.search.within }

pub ruleset ending = (ending_start, ending_on, ending_found, ending_last)

-- ---- what the end tells

-- the pair behind k goes on from that at k
pub record Next (cs gs : List ℕ) (k : ℕ) : Type 0 where
  pub code : get_or cs (k + 1) 0 ≡ get_or cs k 0 + 1
  pub glyph : get_or gs (k + 1) 0 ≡ get_or gs k 0 + 1

not-false : (b : Bool) → not b ≡ false → b ≡ true
not-false true e = refl
not-false false e = absurd (false-true (sym e))

goes_on : (cs gs : List ℕ) (k : ℕ) → breaks_at cs gs (k + 1) ≡ false → Next cs gs k
unfolding breaks
goes_on cs gs k e =
    let z : k + 1 - 1 ≡ k = omega arith in
    let b = not-false _ (rw z at e) in
    record {
      code = eqb-true _ _ (both_left (eqb (get_or cs (k + 1) 0) (get_or cs k 0 + 1)) (eqb (get_or gs (k + 1) 0) (get_or gs k 0 + 1)) b);
      glyph = eqb-true _ _ (both_right (eqb (get_or cs (k + 1) 0) (get_or cs k 0 + 1)) (eqb (get_or gs (k + 1) 0) (get_or gs k 0 + 1)) b);
    }

module _ (cs gs : List ℕ) where
  -- up to what the search among n places behind i finds, each pair goes on
  on_first : (n i k : ℕ) → i ≤ k → k + 1 < first (breaks_at cs gs) n (i + 1) → Next cs gs k
  unfolding first
  on_first zero i k a = λ b. absurd (omega arith)
  on_first (suc n) i k a =
      by_pick (λ (r : ℕ). k + 1 < r → Next cs gs k) (breaks_at cs gs (i + 1)) (i + 1) (first (breaks_at cs gs) n (i + 1 + 1))
      (λ t b. absurd (omega arith))
      (λ t b.
      ⊎_elim
      (λ (s : i ≡ k). subst (Next cs gs) s (goes_on cs gs i t))
      (λ (s : i < k). on_first n (i + 1) k (omega arith) b)
      (eq-or-lt_of_le a))

  -- what holds at the run's first pair, and behind each pair if at it, holds at its last
  pub run_along : (i e : ℕ) (P : ℕ → Type 0) → RunEndsAt cs gs i e → P i → ((k : ℕ) → k + 1 < e → Next cs gs k → P k → P (k + 1)) → P (e - 1)
  unfolding run_end
  run_along i e P r p on = subst P (omega (arith, r.behind)) (go (e - 1 - i) (omega (arith, r.behind)))
    where
      go : (m : ℕ) → i + m < e → P (i + m)
      go zero h = subst P (omega arith) p
      go (suc m) h =
          let next : Next cs gs (i + m) = on_first (length cs - (i + 1)) i (i + m) (omega arith) (omega (arith, r.is)) in
          subst P (omega arith) (on (i + m) (omega arith) next (go m (omega arith)))

  -- the pair behind the run does not go on
  pub run_breaks : (i e : ℕ) → RunEndsAt cs gs i e → e < length cs → breaks_at cs gs e ≡ true
  unfolding run_end
  run_breaks i e r h = subst (λ (k : ℕ). breaks_at cs gs k ≡ true) (sym r.is) (first_holds (breaks_at cs gs) (length cs - (i + 1)) (i + 1) (omega (arith, r.is, r.behind)))
