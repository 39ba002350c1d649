-- Writing the groups run by run: what is left, written from here, gives the whole.
use Prim.Native.Nat.{ℕ, ◌+◌, ◌-◌, ◌*◌, ◌≤◌}
use mathlib.Core.Path.{◌≡◌, refl, sym, ap, ◌∙◌}
use mathlib.Core.List.{List, [], ◌∷◌, ◌++◌}
use native.Mathlib.Omega.{arith}
use lib.ListN.{length, get_or}
use lib.Seq.{sets, length-sets}
use Rattle.laws.specs.Lists.{pairs}
use Rattle.lists_runs.specs.Runs.{RunEndsAt}
use Rattle.laws.proofs.SetsLaws.{sets-append}
use Rattle.number.specs.Row.{encs}
use Rattle.number.proofs.RowLaws.{encs-append}
use Rattle.format12.specs.declared.Group.{Group}
use Rattle.format12.specs.Format12.{group, groups, fields, Columns}
use Rattle.format12.proofs.RunLaws.{ahead, ahead_end, ahead_run}
use Rattle.format12.proofs.WalkLaws.{length_group_bytes}

fields-append : (a b : List Group) → fields (a ++ b) ≡ fields a ++ fields b
fields-append [] b = refl
fields-append (g ∷ a) b = ap (λ (l : List ℕ). g.start ∷ g.end ∷ g.glyph ∷ l) (fields-append a b)

-- groups written behind others
sets_groups : (o : List ℕ) (to r : ℕ) (a b : List Group) → r ≡ to + 12 * length a → sets (sets o to (encs 4 (fields a))) r (encs 4 (fields b)) ≡ sets o to (encs 4 (fields (a ++ b)))
sets_groups o to r a b e =
    let p : r ≡ to + length (encs 4 (fields a)) = omega (arith, e, length_group_bytes a) in
    rw (p, sets-append o to (encs 4 (fields a)) (encs 4 (fields b)), fields-append a b, encs-append 4 (fields a) (fields b))

pub record Writing (cs gs out₀ : List ℕ) (at : ℕ) (out : List ℕ) (to i : ℕ) : Type 0 where
  pub within : i ≤ length cs
  pub same : length out ≡ length out₀
  pub room : to + 12 * length (ahead cs gs i) ≤ length out₀
  pub left : sets out to (encs 4 (fields (ahead cs gs i))) ≡ sets out₀ at (encs 4 (fields (groups (pairs cs gs))))

module _ (cs gs out₀ : List ℕ) (at : ℕ) where
  pub writing_start : at + 12 * length (groups (pairs cs gs)) ≤ length out₀ → Writing cs gs out₀ at out₀ at 0
  writing_start h = record { within = omega arith; same = refl; room = h; left = refl }

  module _ (out : List ℕ) (to i : ℕ) (w : Writing cs gs out₀ at out to i) where
    module _ (j : ℕ) (k : Columns cs gs) (x : RunEndsAt cs gs i j) where
      -- there is room for the run's group
      pub writing_room : to + 12 ≤ length out
      writing_room = omega (arith, w.room, w.same, ap length (ahead_run cs gs k i j x))

      pub writing_on : (next : List ℕ) → next ≡ sets out to (encs 4 (fields (group (get_or cs i 0) (get_or cs (j - 1) 0) (get_or gs i 0) ∷ [])))
          → Writing cs gs out₀ at next (to + 12) j
      writing_on next q =
          let f = ahead_run cs gs k i j x in
          let g = group (get_or cs i 0) (get_or cs (j - 1) 0) (get_or gs i 0) in
          record {
            within = x.within;
            same = ap length q ∙ length-sets out to (encs 4 (fields (g ∷ []))) ∙ w.same;
            room = omega (arith, ap length f, w.room);
            left = ap (λ (o : List ℕ). sets o (to + 12) (encs 4 (fields (ahead cs gs j)))) q ∙ sets_groups out to (to + 12) (g ∷ []) (ahead cs gs j) (omega arith)
                ∙ ap (λ (l : List Group). sets out to (encs 4 (fields l))) (sym f) ∙ w.left;
          }

    pub writing_done : length cs ≤ i → out ≡ sets out₀ at (encs 4 (fields (groups (pairs cs gs))))
    unfolding encs
    writing_done h = rw (ahead_end cs gs i h) at w.left

pub ruleset writing = (writing_start, writing_room, writing_on, writing_done)
