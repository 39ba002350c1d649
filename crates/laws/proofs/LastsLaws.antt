-- Which of a row of byte strings stay where equal ones count once, and how far each stands from the end.
use Prim.Native.Nat.{ℕ, ◌+◌, ◌≤◌}
use mathlib.Core.Path.{◌≡◌, refl, sym, ap, ◌∙◌}
use mathlib.Core.List.{List, [], ◌∷◌}
use mathlib.Core.Bool.{true, false}
use native.Mathlib.Omega.{arith}
use lib.ListN.{length, take, drop, length-append}
use lib.Seq.{take-append_seam, drop-append-add}
use Rattle.laws.specs.Pieces.{concat}
use Rattle.laws.specs.Select.{any_of, eq_list}
use Rattle.laws.specs.Lasts.{among, lasts, before, behind}
use Rattle.laws.proofs.ChoiceLaws.{by_test, false-true}
use Rattle.laws.proofs.EqListLaws.{eq_true}

-- ---- equal lists

pub eq_list-length : (a b : List ℕ) → (length a ≡ length b → ⊥) → eq_list a b ≡ false
eq_list-length a b h = by_test (eq_list a b ≡ false) (eq_list a b) (λ e. absurd (h (ap length (eq_true a b e)))) (λ e. e)

-- ---- among

pub among_here : (t u : List ℕ) (us : List (List ℕ)) → eq_list t u ≡ true → among t (u ∷ us) ≡ true
unfolding among any_of
among_here t u us e = rw e

pub among_skip : (t u : List ℕ) (us : List (List ℕ)) → eq_list t u ≡ false → among t (u ∷ us) ≡ among t us
unfolding among any_of
among_skip t u us e = rw e

pub among_there : (t u : List ℕ) (us : List (List ℕ)) → among t us ≡ true → among t (u ∷ us) ≡ true
among_there t u us e = by_test (among t (u ∷ us) ≡ true) (eq_list t u) (among_here t u us) (λ q. among_skip t u us q ∙ e)

pub among_none : (t : List ℕ) → among t [] ≡ false
unfolding among any_of
among_none t = refl

-- one that is not among them is not the first
pub among_apart : (t u : List ℕ) (us : List (List ℕ)) → among t (u ∷ us) ≡ false → eq_list t u ≡ false
among_apart t u us e = by_test (eq_list t u ≡ false) (eq_list t u) (λ q. absurd (false-true (sym e ∙ among_here t u us q))) (λ q. q)

-- ---- lasts

pub lasts_again : (t : List ℕ) (us : List (List ℕ)) → among t us ≡ true → lasts (t ∷ us) ≡ lasts us
unfolding lasts
lasts_again t us e = rw e

pub lasts_new : (t : List ℕ) (us : List (List ℕ)) → among t us ≡ false → lasts (t ∷ us) ≡ t ∷ lasts us
unfolding lasts
lasts_new t us e = rw e

-- each of them stays
pub among-lasts : (t : List ℕ) (us : List (List ℕ)) → among t (lasts us) ≡ among t us
unfolding lasts
among-lasts t [] = refl
among-lasts t (u ∷ us) =
    by_test (among t (lasts (u ∷ us)) ≡ among t (u ∷ us)) (among u us)
    (λ e. rw (lasts_again u us e) (among-lasts t us ∙ by_test (among t us ≡ among t (u ∷ us)) (eq_list t u)
    (λ q. rw (among_here t u us q, eq_true t u q, e))
    (λ q. sym (among_skip t u us q))))
    (λ e. rw (lasts_new u us e) (by_test (among t (u ∷ lasts us) ≡ among t (u ∷ us)) (eq_list t u)
    (λ q. rw (among_here t u us q) (among_here t u (lasts us) q))
    (λ q. rw (among_skip t u us q, among_skip t u (lasts us) q) (among-lasts t us))))

-- and no two that stay are equal
pub data Distinct : List (List ℕ) → Type 0 where
  none : Distinct []
  more : {t : List ℕ} {us : List (List ℕ)} → among t us ≡ false → Distinct us → Distinct (t ∷ us)

pub lasts_distinct : (us : List (List ℕ)) → Distinct (lasts us)
unfolding lasts
lasts_distinct [] = none
lasts_distinct (u ∷ us) =
    by_test (Distinct (lasts (u ∷ us))) (among u us)
    (λ e. rw (lasts_again u us e) (lasts_distinct us))
    (λ e. rw (lasts_new u us e) (more (among-lasts u us ∙ e) (lasts_distinct us)))

-- ---- before and behind

pub behind_none : (t : List ℕ) → behind t [] ≡ 0
unfolding behind
behind_none t = refl

pub behind_here : (t u : List ℕ) (us : List (List ℕ)) → eq_list t u ≡ true → behind t (u ∷ us) ≡ length u + length (concat us)
unfolding behind
behind_here t u us e = rw e

pub behind_skip : (t u : List ℕ) (us : List (List ℕ)) → eq_list t u ≡ false → behind t (u ∷ us) ≡ behind t us
unfolding behind
behind_skip t u us e = rw e

pub behind_absent : (t : List ℕ) (us : List (List ℕ)) → among t us ≡ false → behind t us ≡ 0
behind_absent t [] e = behind_none t
behind_absent t (u ∷ us) e =
    let q = among_apart t u us e in
    behind_skip t u us q ∙ behind_absent t us (sym (among_skip t u us q) ∙ e)

pub length-concat : (u : List ℕ) (us : List (List ℕ)) → length (concat (u ∷ us)) ≡ length u + length (concat us)
unfolding concat
length-concat u us = length-append u (concat us)

pub length-lasts : (us : List (List ℕ)) → length (concat (lasts us)) ≤ length (concat us)
unfolding lasts
length-lasts [] = omega arith
length-lasts (u ∷ us) =
    by_test (length (concat (lasts (u ∷ us))) ≤ length (concat (u ∷ us))) (among u us)
    (λ e. rw (lasts_again u us e) (omega (arith, length-concat u us, length-lasts us)))
    (λ e. rw (lasts_new u us e) (omega (arith, length-concat u us, length-concat u (lasts us), length-lasts us)))

-- the two together are the whole
pub before-behind : (t : List ℕ) (us : List (List ℕ)) → among t us ≡ true → before t us + behind t us ≡ length (concat us)
unfolding before
before-behind t [] e = absurd (false-true (sym (among_none t) ∙ e))
before-behind t (u ∷ us) e =
    by_test (before t (u ∷ us) + behind t (u ∷ us) ≡ length (concat (u ∷ us))) (eq_list t u)
    (λ q. rw (q, behind_here t u us q, length-concat u us) (omega arith))
    (λ q.
    let h = before-behind t us (sym (among_skip t u us q) ∙ e) in
    rw (q, behind_skip t u us q, length-concat u us) (omega arith))

pub behind_le : (t : List ℕ) (us : List (List ℕ)) → behind t us ≤ length (concat us)
behind_le t [] = rw (behind_none t) (omega arith)
behind_le t (u ∷ us) =
    by_test (behind t (u ∷ us) ≤ length (concat (u ∷ us))) (eq_list t u)
    (λ q. rw (behind_here t u us q, length-concat u us) (omega arith))
    (λ q. rw (behind_skip t u us q, length-concat u us) (omega (arith, behind_le t us)))

-- t itself stands behind its place
pub length-behind : (t : List ℕ) (us : List (List ℕ)) → among t us ≡ true → length t ≤ behind t us
length-behind t [] e = absurd (false-true (sym (among_none t) ∙ e))
length-behind t (u ∷ us) e =
    by_test (length t ≤ behind t (u ∷ us)) (eq_list t u)
    (λ q. rw (behind_here t u us q, eq_true t u q) (omega arith))
    (λ q. rw (behind_skip t u us q) (length-behind t us (sym (among_skip t u us q) ∙ e)))

-- what stands before t in a row of byte strings is as long as told
pub take-before : (t : List ℕ) (us : List (List ℕ)) → among t us ≡ true → take (length t) (drop (before t us) (concat us)) ≡ t
unfolding before concat
take-before t [] e = absurd (false-true (sym (among_none t) ∙ e))
take-before t (u ∷ us) e =
    by_test (take (length t) (drop (before t (u ∷ us)) (concat (u ∷ us))) ≡ t) (eq_list t u)
    (λ q.
    let same = eq_true t u q in
    rw (q, same) (take-append_seam u (concat us)))
    (λ q. rw (q, drop-append-add u (concat us) (before t us)) (take-before t us (sym (among_skip t u us q) ∙ e)))
