-- A row of numbers: its length, its parts, the number at a place, and the stores that make it.
use Prim.Native.Nat.{ℕ, zero, suc, ◌+◌, ◌*◌, ◌%◌, ◌^◌, ◌<◌}
use mathlib.Core.Path.{◌≡◌, refl, sym, ap, ◌∙◌}
use mathlib.Core.List.{List, [], ◌∷◌, ◌++◌, append_assoc}
use native.Mathlib.Nat.{mod-eq_of_lt, mul-suc, mul-zero}
use native.Mathlib.Omega.{arith}
use lib.ListN.{length, get_or, length-append}
use lib.Seq.{sets}
use Rattle.laws.proofs.SetsLaws.{sets-append}
use Rattle.number.specs.BigEndian.{be, enc, put}
use Rattle.number.specs.Row.{encs}
use Rattle.number.proofs.BigEndianLaws.{pow_pos, length-enc, be-enc, be_front, be_back, put_left}

module _ (w : ℕ) where
  pub length-encs : (vs : List ℕ) → length (encs w vs) ≡ w * length vs
  unfolding encs
  length-encs [] = sym (mul-zero w)
  length-encs (v ∷ vs) = rw (length-append (enc w v) (encs w vs), length-enc w v, length-encs vs, mul-suc w (length vs)) (omega arith)

  pub encs-append : (us vs : List ℕ) → encs w (us ++ vs) ≡ encs w us ++ encs w vs
  unfolding encs
  encs-append [] vs = refl
  encs-append (u ∷ us) vs = rw (encs-append us vs) (sym (append_assoc (enc w u) (encs w us) (encs w vs)))

  be_nothing : (u at : ℕ) → be u [] at ≡ 0
  unfolding be
  be_nothing zero at = refl
  be_nothing (suc u) at = rw (be_nothing u at)

  -- the k-th number of the row, as much of it as w bytes hold
  pub be-encs : (vs : List ℕ) (k : ℕ) → be w (encs w vs) (w * k) ≡ get_or vs k 0 % 256 ^ w
  unfolding encs
  be-encs [] k = be_nothing w (w * k) ∙ sym (mod-eq_of_lt (pow_pos w))
  be-encs (v ∷ vs) zero = rw (mul-zero w) (be_front w (enc w v) (encs w vs) 0 (rw (length-enc w v) (omega arith)) ∙ be-enc w v)
  be-encs (v ∷ vs) (suc k) =
      let e : w * suc k ≡ length (enc w v) + w * k = rw (length-enc w v, mul-suc w k) (omega arith) in
      rw e (be_back w (enc w v) (encs w vs) (w * k)) ∙ be-encs vs k

  pub be-encs_fits : (vs : List ℕ) (k : ℕ) → get_or vs k 0 < 256 ^ w → be w (encs w vs) (w * k) ≡ get_or vs k 0
  be-encs_fits vs k h = be-encs vs k ∙ mod-eq_of_lt h

  -- the first number stored, and the rest of the row behind it
  pub put-encs : (l : List ℕ) (i v : ℕ) (vs : List ℕ) → sets (put w l i v) (i + w) (encs w vs) ≡ sets l i (encs w (v ∷ vs))
  unfolding encs
  put-encs l i v vs = put_left w l i v (encs w vs)

  pub put_one_lem : (l : List ℕ) (i v : ℕ) → put w l i v ≡ sets l i (encs w (v ∷ []))
  unfolding encs
  put_one_lem l i v = put-encs l i v []

  -- a row right behind another
  pub encs_then : (us vs l : List ℕ) (i j : ℕ) → j ≡ i + w * length us → sets (sets l i (encs w us)) j (encs w vs) ≡ sets l i (encs w (us ++ vs))
  encs_then us vs l i j e = rw (e, ← length-encs us) (sets-append l i (encs w us) (encs w vs) ∙ ap (sets l i) (sym (encs-append us vs)))

-- a straight line of writers, one step a call: a record, so that a step need not name what stands in it
pub record Rowed (w : ℕ) (l : List ℕ) (i : ℕ) (vs out : List ℕ) : Type 0 where
  pub is : out ≡ sets l i (encs w vs)

pub rowed_first : (w : ℕ) (l : List ℕ) (i v : ℕ) {next : List ℕ} → next ≡ put w l i v → Rowed w l i (v ∷ []) next
rowed_first w l i v e = record { is = e ∙ put_one_lem w l i v }

pub rowed_on : (w j v : ℕ) {l prev next : List ℕ} {i : ℕ} {vs : List ℕ} → Rowed w l i vs prev → next ≡ put w prev j v → j ≡ i + w * length vs
    → Rowed w l i (vs ++ (v ∷ [])) next
rowed_on w j v {l} {prev} {next} {i} {vs} p e h = record { is = e ∙ put_one_lem w prev j v ∙ rw p.is (encs_then w vs (v ∷ []) l i j h) }
