-- A list that stands in another at a place: what is read of it there is what is read of it alone.
use Prim.Native.Nat.{ℕ, ◌+◌, ◌<◌, ◌≤◌}
use mathlib.Core.Path.{◌≡◌, ap, ◌∙◌}
use mathlib.Core.List.{List, ◌++◌}
use native.Mathlib.Nat.{zero-add, add_assoc}
use native.Mathlib.Omega.{arith}
use lib.ListN.{length, get_or, length-append, get_or-append}
use lib.Seq.{sets, length-sets, get_or-append-add}
use Rattle.laws.proofs.SetsLaws.{get_or-sets_in}

pub record Stands (xs : List ℕ) (at : ℕ) (t : List ℕ) : Type 0 where
  pub inside : at + length t ≤ length xs
  pub same : (k : ℕ) → k < length t → get_or xs (at + k) 0 ≡ get_or t k 0

-- between two others
pub stands_append : (front t back : List ℕ) → Stands (front ++ (t ++ back)) (length front) t
stands_append front t back = record {
  inside = rw (length-append, length-append) (omega arith);
  same = λ k h. get_or-append-add front (t ++ back) k 0 ∙ get_or-append t back 0 k h;
}

-- stored there
pub stands_sets : (l : List ℕ) (at : ℕ) (t : List ℕ) → at + length t ≤ length l → Stands (sets l at t) at t
stands_sets l at t h = record {
  inside = rw length-sets h;
  same = λ k r. get_or-sets_in l at t k r h;
}

-- in a list that stands in a third
pub stands_in : {xs t u : List ℕ} (at i : ℕ) → Stands xs at t → Stands t i u → Stands xs (at + i) u
stands_in at i p q = record {
  inside = omega (arith, p.inside, q.inside);
  same = λ k h. rw (add_assoc at i k) (p.same (i + k) (omega (arith, q.inside)) ∙ q.same k h);
}

-- at a place that is told in other words
pub stands_at : {xs t u : List ℕ} {i : ℕ} (at j : ℕ) → Stands xs i t → Stands t j u → at ≡ i + j → Stands xs at u
stands_at {xs} {t} {u} {i} at j p q e = rw e (stands_in i j p q)

-- ---- a list that stands in another stands in a longer one too

pub stands_whole : (t : List ℕ) → Stands t 0 t
stands_whole t = record { inside = omega arith; same = λ k h. ap (λ (i : ℕ). get_or t i 0) (zero-add k) }

module _ {xs t : List ℕ} {i : ℕ} where
  pub stands_behind : (front : List ℕ) (at : ℕ) → Stands xs i t → at ≡ length front + i → Stands (front ++ xs) at t
  stands_behind front at st e = record {
    inside = rw (length-append front xs) (omega (arith, st.inside));
    same = λ k h.
        let p : at + k ≡ length front + (i + k) = omega arith in
        rw p (get_or-append-add front xs (i + k) 0 ∙ st.same k h);
  }

  pub stands_before : (back : List ℕ) → Stands xs i t → Stands (xs ++ back) i t
  stands_before back st = record {
    inside = rw (length-append xs back) (omega (arith, st.inside));
    same = λ k h. get_or-append xs back 0 (i + k) (omega (arith, st.inside)) ∙ st.same k h;
  }
