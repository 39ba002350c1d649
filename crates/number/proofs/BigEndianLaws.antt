-- The laws of big-endian numbers, each proved once over the width.
use Prim.Native.Nat.{ℕ, zero, suc, ◌+◌, ◌*◌, ◌/◌, ◌%◌, ◌^◌, ◌<◌, ◌≤◌}
use mathlib.Core.Path.{◌≡◌, refl, ap, ◌∙◌}
use mathlib.Core.List.{List, [], ◌∷◌, ◌++◌}
use mathlib.Core.Logic.{◌⊎◌, inl, inr, ⊎_elim}
use lib.Arith.{mod-mul, digits_div, digits_mod}
use native.Mathlib.Nat.{pow-suc, add-zero, mod-eq_of_lt, add_assoc}
use native.Mathlib.Omega.{arith}
use lib.ListN.{length, get_or, take, drop, set, length-append, length-drop, get_or-append}
use lib.Seq.{sets, length-sets, get_or-append-add, take-suc, get_or-drop, get_or_at}
use Rattle.laws.proofs.SetsLaws.{sets_snoc, sets-append, get_or-sets_other, get_or-sets_in}
use Rattle.number.specs.BigEndian.{be, enc, put, Bytes, Num, Byte}

-- ---- be: the number

pub num_one : {xs : List ℕ} {at b : ℕ} → Byte xs at b → Num 1 xs at b
unfolding be
num_one {xs} {at} h = record { is = h.is ∙ rw (add-zero at) (omega arith); below = h.below }

-- one more byte
pub num_step : (w : ℕ) {xs : List ℕ} {at q b : ℕ} → Num w xs at q → Byte xs (at + w) b → Num (suc w) xs at (q * 256 + b)
unfolding be
num_step w {xs} {at} {q} {b} h k = record {
  is = cc;
  below = rw (pow-suc 256 w) (omega (arith, h.below, k.below));
}

-- a number depends on its own bytes alone
pub be_ext : (w : ℕ) (xs ys : List ℕ) (at bt : ℕ) → ((k : ℕ) → k < w → get_or xs (at + k) 0 ≡ get_or ys (bt + k) 0) → be w xs at ≡ be w ys bt
unfolding be
be_ext zero xs ys at bt h = refl
be_ext (suc w) xs ys at bt h = rw (be_ext w xs ys at bt (λ k l. h k (omega arith)), h w (omega arith))

pub be_lt : (w : ℕ) (xs : List ℕ) (at : ℕ) → Bytes xs → be w xs at < 256 ^ w
unfolding be
be_lt zero xs at h = omega arith
be_lt (suc w) xs at h = rw (pow-suc 256 w) (omega (arith, be_lt w xs at h, h (at + w)))

-- in a longer list
pub be_front : (w : ℕ) (xs ys : List ℕ) (at : ℕ) → at + w ≤ length xs → be w (xs ++ ys) at ≡ be w xs at
be_front w xs ys at h = be_ext w (xs ++ ys) xs at at (λ k l. get_or-append xs ys 0 (at + k) (omega arith))

pub be_back : (w : ℕ) (xs ys : List ℕ) (at : ℕ) → be w (xs ++ ys) (length xs + at) ≡ be w ys at
be_back w xs ys at = be_ext w (xs ++ ys) ys (length xs + at) at (λ k l. rw add_assoc (get_or-append-add xs ys (at + k) 0))

-- ---- enc: the bytes

pub length-enc : (w n : ℕ) → length (enc w n) ≡ w
unfolding enc
length-enc zero n = refl
length-enc (suc w) n = rw (length-append, length-enc w (n / 256)) (omega arith)

pub pow_pos : (w : ℕ) → 0 < 256 ^ w
pow_pos w = omega (arith, be_lt w [] 0 (λ i. omega arith))

-- the number of the bytes of n, and the bytes of a number
pub be-enc : (w n : ℕ) → be w (enc w n) 0 ≡ n % 256 ^ w
unfolding be enc
be-enc zero n = omega arith
be-enc (suc w) n =
    rw (
      pow-suc 256 w,
      mod-mul n {m = 256 ^ w} {c = 256} (pow_pos w) (omega arith),
      ← be-enc w (n / 256),
      get_or_at (enc w (n / 256)) (n % 256) [] 0 (0 + w) (length-enc w (n / 256) ∙ omega arith),
      be_ext w (enc w (n / 256) ++ (n % 256 ∷ [])) (enc w (n / 256)) 0 0 (λ k l. get_or-append (enc w (n / 256)) (n % 256 ∷ []) 0 (0 + k) (rw (length-enc w (n / 256)) (omega arith))),
    )

pub be-enc_fits : (w n : ℕ) → n < 256 ^ w → be w (enc w n) 0 ≡ n
be-enc_fits w n h = be-enc w n ∙ mod-eq_of_lt h

pub enc-be : (w : ℕ) (xs : List ℕ) (at : ℕ) → Bytes xs → at + w ≤ length xs → enc w (be w xs at) ≡ take w (drop at xs)
unfolding be enc
enc-be zero xs at h l = refl
enc-be (suc w) xs at h l =
    rw (
      digits_div (be w xs at) (h (at + w)),
      digits_mod (be w xs at) (h (at + w)),
      enc-be w xs at h (omega arith),
      take-suc (drop at xs) w 0 (simp length-drop (omega arith)),
      get_or-drop at xs w 0,
    )

-- ---- put: the bytes at a place

pub put_step : (w : ℕ) (xs : List ℕ) (at v : ℕ) → set (put w xs at (v / 256)) (at + w) (v % 256) ≡ put (suc w) xs at v
unfolding put enc
put_step w xs at v = rw (sets_snoc xs at (enc w (v / 256)) (v % 256), length-enc w (v / 256))

pub length-put : (w : ℕ) (xs : List ℕ) (at v : ℕ) → length (put w xs at v) ≡ length xs
unfolding put
length-put w xs at v = length-sets xs at (enc w v)

-- read at the same place, and at another
pub be-put : (w : ℕ) (xs : List ℕ) (at v : ℕ) → at + w ≤ length xs → be w (put w xs at v) at ≡ v % 256 ^ w
unfolding put
be-put w xs at v h =
    be_ext w (put w xs at v) (enc w v) at 0
    (λ k l. get_or-sets_in xs at (enc w v) k (rw (length-enc w v) l) (rw (length-enc w v) h) ∙ ap (λ i. get_or (enc w v) i 0) (omega arith))
    ∙ be-enc w v

pub be-put_fits : (w : ℕ) (xs : List ℕ) (at v : ℕ) → at + w ≤ length xs → v < 256 ^ w → be w (put w xs at v) at ≡ v
be-put_fits w xs at v h l = be-put w xs at v h ∙ mod-eq_of_lt l

pub be-put_other : (w u : ℕ) (xs : List ℕ) (at bt v : ℕ) → (at + w ≤ bt) ⊎ (bt + u ≤ at) → be w (put u xs bt v) at ≡ be w xs at
unfolding put
be-put_other w u xs at bt v h =
    be_ext w (put u xs bt v) xs at at
    (λ k l. get_or-sets_other xs bt (enc u v) (at + k) (⊎_elim (λ (a : at + w ≤ bt). inl (omega arith)) (λ (b : bt + u ≤ at). inr (rw (length-enc u v) (omega arith))) h))

-- ---- writes that join

-- a number written behind a run of stores makes it longer
pub put_after : (w : ℕ) (l : List ℕ) (i : ℕ) (vs : List ℕ) (n j : ℕ) → j ≡ i + length vs → put w (sets l i vs) j n ≡ sets l i (vs ++ enc w n)
unfolding put
put_after w l i vs n j e = rw e (sets-append l i vs (enc w n))

-- a number written before a run of stores
pub put_left : (w : ℕ) (l : List ℕ) (i n : ℕ) (ws : List ℕ) → sets (put w l i n) (i + w) ws ≡ sets l i (enc w n ++ ws)
unfolding put
put_left w l i n ws = rw (length-enc w n) at (sets-append l i (enc w n) ws)

-- a straight line of writers, one step a call: a record, so that a step need not name what stands in it
pub record Written (l : List ℕ) (i : ℕ) (vs out : List ℕ) : Type 0 where
  pub is : out ≡ sets l i vs

pub written_first : (w : ℕ) (l : List ℕ) (i n : ℕ) {next : List ℕ} → next ≡ put w l i n → Written l i (enc w n) next
unfolding put
written_first w l i n e = record { is = e }

pub written_on : (w j n : ℕ) {l prev next : List ℕ} {i : ℕ} {vs : List ℕ} → Written l i vs prev → next ≡ put w prev j n → j ≡ i + length vs → Written l i (vs ++ enc w n) next
written_on w j n {l} {prev} {next} {i} {vs} p e h = record { is = e ∙ rw p.is (put_after w l i vs n j h) }
