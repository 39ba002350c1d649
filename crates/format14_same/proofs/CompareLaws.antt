-- Two lists of records compared from the front, record by record.
use Prim.Native.Nat.{ℕ, ◌<◌}
use mathlib.Core.Path.{◌≡◌, sym, ◌∙◌}
use mathlib.Core.List.{List, [], ◌∷◌, ◌++◌}
use mathlib.Core.Bool.{Bool, true, false}
use native.Mathlib.Omega.{arith}
use lib.ListN.{length, length-append}
use Rattle.laws.specs.Choice.{pick}
use Rattle.laws.specs.Select.{flat, eq_list}
use Rattle.laws.proofs.EqListLaws.{eq_append, eq_none, none_eq}

-- ls and rs are left: what they tell is what the whole lists tell, which is `whole`
pub record Comparing {A : Type 0} (w : A → List ℕ) (ls rs : List A) (whole : Bool) : Type 0 where
  pub left : eq_list (flat w ls) (flat w rs) ≡ whole

-- records of one size, which is not 0
module _ {A : Type 0} (w : A → List ℕ) (size : ℕ) (s : 0 < size) (h : (x : A) → length (w x) ≡ size) {whole : Bool} {ls rs : List A} (c : Comparing w ls rs whole) where
  module _ (x y : A) (ls' rs' : List A) (l : ls ≡ x ∷ ls') (r : rs ≡ y ∷ rs') where
    heads : pick (eq_list (w x) (w y)) (eq_list (flat w ls') (flat w rs')) false ≡ whole
    unfolding flat
    heads = sym (eq_append (w x) (w y) (flat w ls') (flat w rs') (h x ∙ sym (h y))) ∙ rw (l, r) at c.left

    pub compare_on : eq_list (w x) (w y) ≡ true → Comparing w ls' rs' whole
    compare_on e = record { left = rw e at heads }

    pub compare_off : eq_list (w x) (w y) ≡ false → false ≡ whole
    compare_off e = rw e at heads

  pub compare_short : (x : A) (ls' : List A) → ls ≡ x ∷ ls' → rs ≡ [] → false ≡ whole
  unfolding flat
  compare_short x ls' l r = sym (none_eq (w x ++ flat w ls') (rw (length-append, h x) (omega arith))) ∙ rw (l, r) at c.left

  pub compare_long : (y : A) (rs' : List A) → ls ≡ [] → rs ≡ y ∷ rs' → false ≡ whole
  unfolding flat
  compare_long y rs' l r = sym (eq_none (w y ++ flat w rs') (rw (length-append, h y) (omega arith))) ∙ rw (l, r) at c.left

  pub compare_end : ls ≡ [] → rs ≡ [] → true ≡ whole
  unfolding flat eq_list
  compare_end l r = rw (l, r) at c.left
