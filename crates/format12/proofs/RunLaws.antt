-- A run of pairs is the first group of the pairs from its first on.
use Prim.Native.Nat.{ℕ, ◌+◌, ◌-◌, ◌<◌, ◌≤◌}
use mathlib.Core.Path.{◌≡◌, refl, sym, ap, ◌∙◌}
use mathlib.Core.List.{List, [], ◌∷◌, ◌++◌, append-nil}
use mathlib.Core.Bool.{Bool, true, false, not}
use native.Mathlib.Numerals.{add-one}
use native.Mathlib.Omega.{arith}
use borrow.Author.Tests.{eq-eqb}
use lib.Dec.{eqb}
use lib.ListN.{length, get_or, drop, drop_of_length-le}
use lib.Seq.{append_snoc, drop-cons}
use Rattle.laws.specs.Choice.{both}
use Rattle.laws.specs.Lists.{Pair, pairs}
use Rattle.laws.specs.Pieces.{pieces}
use Rattle.laws.proofs.ChoiceLaws.{false-true, by_leb}
use Rattle.laws.proofs.PiecesLaws.{Joined, lone, joined_snoc, pieces_joined, pieces_all}
use Rattle.lists_runs.specs.Runs.{breaks, RunEndsAt}
use Rattle.lists_runs.proofs.EndLaws.{Next, run_along, run_breaks}
use Rattle.format12.specs.declared.Group.{Group}
use Rattle.format12.specs.Format12.{consecutive, group, grouped, groups, Columns}
use Rattle.format12.proofs.GroupsLaws.{last_joined}

-- the groups of the pairs from the i-th on
abbrev pub ahead : List ℕ → List ℕ → ℕ → List Group
ahead cs gs i = groups (pairs (drop i cs) (drop i gs))

pub ahead_end : (cs gs : List ℕ) (i : ℕ) → length cs ≤ i → ahead cs gs i ≡ []
unfolding grouped pieces
ahead_end cs gs i h = rw (drop_of_length-le cs h)

not-true : (b : Bool) → not b ≡ true → b ≡ false
not-true true e = absurd (false-true e)
not-true false e = refl

module _ (cs gs : List ℕ) (w : Columns cs gs) where
  abbrev pair_at : ℕ → Pair
  pair_at k = (get_or cs k 0, get_or gs k 0)

  abbrev from : ℕ → List Pair
  from k = pairs (drop k cs) (drop k gs)

  from_cons : (k : ℕ) → k < length cs → from k ≡ pair_at k ∷ from (k + 1)
  from_cons k h = rw (add-one k, drop-cons cs k 0 h, drop-cons gs k 0 (omega (arith, w.even)))

  -- the pairs from i to k go on one from the other
  record Row (i k : ℕ) : Type 0 where
    pub others : List Pair
    pub joined : Joined consecutive (pair_at i) others (pair_at k)
    pub whole : from i ≡ (pair_at i ∷ others) ++ from (k + 1)

  row_on : (i k : ℕ) → k + 1 < length cs → Next cs gs k → Row i k → Row i (k + 1)
  unfolding consecutive
  row_on i k h n r = record {
    others = r.others ++ (pair_at (k + 1) ∷ []);
    joined = joined_snoc consecutive (pair_at (k + 1)) r.joined (rw (eq-eqb _ _ n.code, eq-eqb _ _ n.glyph));
    whole = r.whole ∙ ap (λ (ps : List Pair). (pair_at i ∷ r.others) ++ ps) (from_cons (k + 1) h)
        ∙ ap (λ (ps : List Pair). pair_at i ∷ ps) (sym (append_snoc r.others (pair_at (k + 1)) (from (k + 1 + 1))));
  }

  run_row : (i e : ℕ) → RunEndsAt cs gs i e → Row i (e - 1)
  run_row i e r =
      run_along cs gs i e (Row i) r
      (record { others = []; joined = lone; whole = from_cons i (omega (arith, r.behind, r.within)) })
      (λ k h n. row_on i k (omega (arith, r.within)) n)

  breaks-consecutive : (e : ℕ) → breaks (get_or cs (e - 1) 0) (get_or gs (e - 1) 0) (get_or cs e 0) (get_or gs e 0) ≡ true → consecutive (pair_at (e - 1)) (pair_at e) ≡ false
  unfolding breaks consecutive
  breaks-consecutive e b = not-true (both (eqb (get_or cs e 0) (get_or cs (e - 1) 0 + 1)) (eqb (get_or gs e 0) (get_or gs (e - 1) 0 + 1))) b

  -- the run from i on is a group, and the others are those of the pairs behind it
  pub ahead_run : (i e : ℕ) → RunEndsAt cs gs i e → ahead cs gs i ≡ group (get_or cs i 0) (get_or cs (e - 1) 0) (get_or gs i 0) ∷ ahead cs gs e
  unfolding grouped
  ahead_run i e r =
      let z : e - 1 + 1 ≡ e = omega (arith, r.behind) in
      let row = run_row i e r in
      let whole : from i ≡ (pair_at i ∷ row.others) ++ from e = rw z at row.whole in
      by_leb (ahead cs gs i ≡ group (get_or cs i 0) (get_or cs (e - 1) 0) (get_or gs i 0) ∷ ahead cs gs e) (length cs) e
      (λ h. rw (whole, drop_of_length-le cs h, append-nil row.others, pieces_all consecutive row.joined, last_joined row.joined) (unfold pieces in refl))
      (λ h.
      rw (whole, from_cons e h, pieces_joined consecutive (pair_at e) (from (e + 1)) row.joined (breaks-consecutive e (run_breaks cs gs i e r h)), last_joined row.joined))
