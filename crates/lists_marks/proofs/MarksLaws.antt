-- Flags: stores from place to place paint a stretch, painting flags that say p, and what is copied by them.
use Prim.Native.Nat.{ℕ, zero, suc, ◌+◌, ◌-◌, ◌<◌, ◌≤◌}
use mathlib.Core.Path.{◌≡◌, refl, sym, ap, ◌∙◌}
use mathlib.Core.List.{List, [], ◌∷◌, ◌++◌}
use mathlib.Core.Bool.{Bool, true, false}
use native.Mathlib.Nat.{not-suc-le-zero, zero-add, add-zero, suc-add, add-suc}
use native.Mathlib.Numerals.{add-one}
use native.Mathlib.Omega.{arith}
use lib.Dec.{eqb}
use lib.ListN.{length, get_or, take, drop, set, replicate, length-set, length-replicate, drop_of_length-le}
use lib.Seq.{sets, length-sets, drop-cons}
use Rattle.std.proofs.lemmas.List.{length-take-le}
use borrow.Author.Tests.{lt-ltb, le-ltb, le-leb, lt-leb, eq-eqb, ne_eqb}
use Rattle.laws.specs.Choice.{pick}
use Rattle.laws.specs.Lists.{Rising, keep}
use Rattle.laws.proofs.ChoiceLaws.{by_leb}
use Rattle.laws.proofs.RisingLaws.{rising_tail}
use Rattle.laws.proofs.FrontLaws.{sets_front, sets_over}
use Rattle.laws.proofs.SetsLaws.{get_or-sets_in}
use Rattle.lists_marks.specs.Marks.{between, below, passed, flag_of, flagged, painted, kept, Bound, Flags, Cleared, CopyRoom}
use Rattle.lists_marks.proofs.BelowLaws.{below_tail, passed_none}

-- ---- painted, store by store

-- k flags from i on, each what v says of its point
unfoldable pub stores : (ℕ → Bool) → List ℕ → ℕ → ℕ → List ℕ → List ℕ
stores v ps zero i fs = fs
stores v ps (suc k) i fs = stores v ps k (suc i) (set fs i (flag_of (v (get_or ps i 0))))

stores-suc : (v : ℕ → Bool) (x : ℕ) (ps : List ℕ) (k i f : ℕ) (fs : List ℕ) → stores v (x ∷ ps) k (suc i) (f ∷ fs) ≡ f ∷ stores v ps k i fs
unfolding stores
stores-suc v x ps zero i f fs = refl
stores-suc v x ps (suc k) i f fs = stores-suc v x ps k (suc i) f (set fs i (flag_of (v (get_or ps i 0))))

-- the points of a stretch stand side by side
pub painted-stores : (v : ℕ → Bool) (a e : ℕ) (ps fs : List ℕ) → Rising ps → length ps ≤ length fs
    → stores v ps (below ps (e + 1) - below ps a) (below ps a) fs ≡ painted (between a e) v ps fs
unfolding below painted stores
painted-stores v a e [] fs r h = refl
painted-stores v a e (x ∷ xs) [] r h = absurd (not-suc-le-zero h)
painted-stores v a e (x ∷ xs) (f ∷ fs) r h =
    let ih = painted-stores v a e xs fs (rising_tail r) (omega arith) in
    let b = below xs (e + 1) in
    let s = below xs a in
    by_leb (stores v (x ∷ xs) (below (x ∷ xs) (e + 1) - below (x ∷ xs) a) (below (x ∷ xs) a) (f ∷ fs) ≡ painted (between a e) v (x ∷ xs) (f ∷ fs)) a x
    (λ (p : a ≤ x).
    let z = below_tail a r p in
    by_leb _ x e
    (λ (q : x ≤ e).
    let k : suc b - 0 ≡ suc b = omega arith in
    let j : b - 0 ≡ b = omega arith in
    rw (le-ltb x a p, le-leb a x p, lt-ltb x (e + 1) (omega arith), le-leb x e q, z, k) (stores-suc v x xs b 0 (flag_of (v x)) fs ∙ ap (λ (l : List ℕ). flag_of (v x) ∷ l) (rw (z, j) at ih)))
    (λ (q : e < x).
    let y = below_tail (e + 1) r (omega arith) in
    rw (le-ltb x a p, le-leb a x p, le-ltb x (e + 1) (omega arith), lt-leb x e q, z, y) (ap (λ (l : List ℕ). f ∷ l) (rw (z, y) at ih))))
    (λ (p : x < a).
    by_leb _ x e
    (λ (q : x ≤ e).
    let k : suc b - suc s ≡ b - s = omega arith in
    rw (lt-ltb x a p, lt-leb a x p, lt-ltb x (e + 1) (omega arith), k) (stores-suc v x xs (b - s) s f fs ∙ ap (λ (l : List ℕ). f ∷ l) ih))
    (λ (q : e < x).
    let y = below_tail (e + 1) r (omega arith) in
    let k : b - suc s ≡ b - s = omega arith in
    rw (lt-ltb x a p, lt-leb a x p, le-ltb x (e + 1) (omega arith), k) (stores-suc v x xs (b - s) s f fs ∙ ap (λ (l : List ℕ). f ∷ l) ih)))

-- a stretch that is passed holds nothing to paint
pub painted-passed : (a e near : ℕ) (v : ℕ → Bool) (b : Bool) (ps fs : List ℕ) → Flags ps fs → b ≡ passed ps a e near → b ≡ true → fs ≡ painted (between a e) v ps fs
unfolding stores
painted-passed a e near v b ps fs k q h =
    let m : below ps (e + 1) - below ps a ≡ 0 = omega (arith, passed_none ps a e near b q h) in
    rw m at (painted-stores v a e ps fs k.rising k.beside)

-- where no point passes, nothing is painted
pub painted_none : (p v : ℕ → Bool) → ((c : ℕ) → p c ≡ false) → (ps fs : List ℕ) → painted p v ps fs ≡ fs
unfolding painted
painted_none p v h [] fs = refl
painted_none p v h (c ∷ cs) [] = refl
painted_none p v h (c ∷ cs) (f ∷ fs) = rw (h c, painted_none p v h cs fs)

-- the flags up to i are painted: what is left, from here, gives the whole
pub record Painting (v : ℕ → Bool) (ps fs₀ fs : List ℕ) (low high i : ℕ) : Type 0 where
  pub from : low ≤ i
  pub left : stores v ps (high - i) i fs ≡ stores v ps (high - low) low fs₀
  pub same : length fs ≡ length fs₀

pub painting_start : (v : ℕ → Bool) (ps fs₀ : List ℕ) (low high : ℕ) → Painting v ps fs₀ fs₀ low high low
painting_start v ps fs₀ low high = record { from = omega arith; left = refl; same = refl }

module _ {v : ℕ → Bool} {ps fs₀ fs : List ℕ} {low high i : ℕ} (p : Painting v ps fs₀ fs low high i) where
  pub painting_on : i < high → (f : ℕ) → f ≡ flag_of (v (get_or ps i 0)) → Painting v ps fs₀ (set fs i f) low high (i + 1)
  unfolding stores
  painting_on h f e =
      let m : high - i ≡ suc (high - (i + 1)) = omega arith in
      record { from = omega (arith, p.from); left = rw (add-one i, e) (rw (m, add-one i) at p.left); same = length-set fs i f ∙ p.same }

  -- the same with the code's own answer b
  pub painting_says : i < high → (f : ℕ) (b : Bool) → b ≡ v (get_or ps i 0) → f ≡ flag_of b → Painting v ps fs₀ (set fs i f) low high (i + 1)
  painting_says h f b q e = painting_on h f (rw q at e)

  pub painting_done : (a e : ℕ) → high ≤ i → Bound ps a low → Bound ps (e + 1) high → Flags ps fs₀ → fs ≡ painted (between a e) v ps fs₀
  unfolding stores
  painting_done a e h b d k =
      let m : high - i ≡ 0 = omega arith in
      rw m at p.left ∙ rw (b.is, d.is) (painted-stores v a e ps fs₀ k.rising k.beside)

pub ruleset painting = (painting_start, painting_on, painting_says, painting_done)

-- ---- flags that say which points pass

pub length-flagged : (p : ℕ → Bool) (ps : List ℕ) → length (flagged p ps) ≡ length ps
unfolding flagged
length-flagged p [] = refl
length-flagged p (c ∷ cs) = ap suc (length-flagged p cs)

pub flagged_ext : (p q : ℕ → Bool) → ((c : ℕ) → p c ≡ q c) → (ps : List ℕ) → flagged p ps ≡ flagged q ps
unfolding flagged
flagged_ext p q h [] = refl
flagged_ext p q h (c ∷ cs) = rw (h c, flagged_ext p q h cs)

pub get_or-flagged : (p : ℕ → Bool) (ps : List ℕ) (i : ℕ) → i < length ps → get_or (flagged p ps) i 0 ≡ flag_of (p (get_or ps i 0))
unfolding flagged
get_or-flagged p [] i h = absurd (not-suc-le-zero h)
get_or-flagged p (c ∷ cs) zero h = refl
get_or-flagged p (c ∷ cs) (suc i) h = get_or-flagged p cs i (omega arith)

-- one flag, read
pub flag_at : (p : ℕ → Bool) (ps fs : List ℕ) (i : ℕ) → i < length ps → length ps ≤ length fs → get_or (sets fs 0 (flagged p ps)) i 0 ≡ flag_of (p (get_or ps i 0))
flag_at p ps fs i h l =
    let z : 0 + i ≡ i = omega arith in
    let n = length-flagged p ps in
    rw z at (get_or-sets_in fs 0 (flagged p ps) i (rw n h) (rw n (omega arith))) ∙ get_or-flagged p ps i h

pub flagged_none : (ps : List ℕ) → flagged (λ c. false) ps ≡ replicate (length ps) 0
unfolding flagged
flagged_none [] = refl
flagged_none (c ∷ cs) = ap (λ (l : List ℕ). 0 ∷ l) (flagged_none cs)

flag_pick : (t a b : Bool) → pick t (flag_of a) (flag_of b) ≡ flag_of (pick t a b)
flag_pick true a b = refl
flag_pick false a b = refl

painted_front : (h v q : ℕ → Bool) (ps rest : List ℕ) → painted h v ps (flagged q ps ++ rest) ≡ flagged (λ c. pick (h c) (v c) (q c)) ps ++ rest
unfolding painted flagged
painted_front h v q [] rest = refl
painted_front h v q (c ∷ cs) rest = rw (flag_pick (h c) (v c) (q c), painted_front h v q cs rest)

-- painting over flags that say q
pub painted-flagged : (h v q : ℕ → Bool) (ps fs : List ℕ) → length ps ≤ length fs
    → painted h v ps (sets fs 0 (flagged q ps)) ≡ sets fs 0 (flagged (λ c. pick (h c) (v c) (q c)) ps)
painted-flagged h v q ps fs l =
    let w : ℕ → Bool = λ c. pick (h c) (v c) (q c) in
    rw (sets_front fs (flagged q ps) (rw (length-flagged q ps) l), sets_front fs (flagged w ps) (rw (length-flagged w ps) l), length-flagged q ps, length-flagged w ps)
    (painted_front h v q ps (drop (length ps) fs))

-- the first flags say q, and the others are as they were
pub record Saying (q : ℕ → Bool) (ps fs₀ fs : List ℕ) : Type 0 where
  pub is : fs ≡ sets fs₀ 0 (flagged q ps)
  pub same : length fs ≡ length fs₀

pub saying_none : {ps fs : List ℕ} → Cleared (length ps) fs → Saying (λ c. false) ps fs fs
saying_none {ps} e = record { is = e.is ∙ rw (flagged_none ps); same = refl }

pub saying_on : {q : ℕ → Bool} {ps fs₀ fs : List ℕ} (h v p : ℕ → Bool) {fs' : List ℕ} → Saying q ps fs₀ fs → Flags ps fs₀ → fs' ≡ painted h v ps fs
    → ((c : ℕ) → pick (h c) (v c) (q c) ≡ p c) → Saying p ps fs₀ fs'
saying_on {q} {ps} {fs₀} {fs} h v p {fs'} s k e w =
    let all : fs' ≡ sets fs₀ 0 (flagged p ps) =
    e ∙ rw s.is (painted-flagged h v q ps fs₀ k.beside ∙ rw (flagged_ext (λ c. pick (h c) (v c) (q c)) p w ps)) in
    record { is = all; same = rw all (length-sets fs₀ 0 (flagged p ps)) }

-- ---- cleared flags

pub cleared : (n : ℕ) (fs₀ fs : List ℕ) → fs ≡ sets fs₀ 0 (replicate n 0) → Cleared n fs
cleared n fs₀ fs e = record { is = rw e (sym (sets_over fs₀ 0 (replicate n 0) (replicate n 0) refl)) }

-- what is said after clearing is said at once
pub cleared_flagged : (p : ℕ → Bool) (ps fs₀ fs fs' : List ℕ) → fs ≡ sets fs₀ 0 (replicate (length ps) 0) → fs' ≡ sets fs 0 (flagged p ps) → fs' ≡ sets fs₀ 0 (flagged p ps)
cleared_flagged p ps fs₀ fs fs' e d =
    d ∙ rw e (sets_over fs₀ 0 (replicate (length ps) 0) (flagged p ps) (rw (length-flagged p ps) (length-replicate {A = ℕ} (length ps) 0)))

-- the flags from low up to i are v: what is left up to high, from here, gives the whole
pub record Filling (v : ℕ) (fs₀ fs : List ℕ) (low high i : ℕ) : Type 0 where
  pub from : low ≤ i
  pub left : sets fs i (replicate (high - i) v) ≡ sets fs₀ low (replicate (high - low) v)
  pub same : length fs ≡ length fs₀

pub filling_start : (v : ℕ) (fs₀ : List ℕ) (low high : ℕ) → Filling v fs₀ fs₀ low high low
filling_start v fs₀ low high = record { from = omega arith; left = refl; same = refl }

module _ {v : ℕ} {fs₀ fs : List ℕ} {low high i : ℕ} (l : Filling v fs₀ fs low high i) where
  pub filling_on : i < high → Filling v fs₀ (set fs i v) low high (i + 1)
  filling_on h =
      let m : high - i ≡ suc (high - (i + 1)) = omega arith in
      record { from = omega (arith, l.from); left = rw (add-one i) (rw (m, add-one i) at l.left); same = length-set fs i v ∙ l.same }

  pub filling_done : high ≤ i → fs ≡ sets fs₀ low (replicate (high - low) v)
  filling_done h =
      let m : high - i ≡ 0 = omega arith in
      rw m at l.left

pub ruleset filling = (filling_start, filling_on, filling_done)

-- a part filled by a call
filled_parts : (v k m i : ℕ) (fs : List ℕ) → sets fs i (replicate (k + m) v) ≡ sets (sets fs i (replicate k v)) (i + k) (replicate m v)
filled_parts v zero m i fs = rw (zero-add m, add-zero i)
filled_parts v (suc k) m i fs = rw (suc-add k m, add-suc i k) (rw (suc-add i k) at (filled_parts v k m (suc i) (set fs i v)))

pub filling_part : {v : ℕ} {fs₀ fs : List ℕ} {low high i : ℕ} (l : Filling v fs₀ fs low high i) (fs' : List ℕ) (j : ℕ) → i ≤ j → j ≤ high
    → fs' ≡ sets fs i (replicate (j - i) v) → Filling v fs₀ fs' low high j
filling_part {v} {fs₀} {fs} {low} {high} {i} l fs' j h k e =
    let m : high - i ≡ (j - i) + (high - j) = omega arith in
    let s : i + (j - i) ≡ j = omega arith in
    record {
      from = omega (arith, l.from);
      left = rw (e) (rw (m, filled_parts v (j - i) (high - j) i fs, s) at l.left);
      same = rw (e) (length-sets fs i (replicate (j - i) v)) ∙ l.same;
    }

-- the first of the flags by itself
module _ (v : ℕ) (fs : List ℕ) (low high : ℕ) where
  pub filled_none : high ≤ low → fs ≡ sets fs low (replicate (high - low) v)
  filled_none h = filling_done (filling_start v fs low high) h

  pub filled_one : low < high → high ≤ low + 1 → set fs low v ≡ sets fs low (replicate (high - low) v)
  filled_one h l = filling_done (filling_on (filling_start v fs low high) h) l

  pub filled_more : (fs' : List ℕ) → low < high → fs' ≡ sets (set fs low v) (low + 1) (replicate (high - (low + 1)) v) → fs' ≡ sets fs low (replicate (high - low) v)
  filled_more fs' h e = e ∙ (filling_on (filling_start v fs low high) h).left

  pub filled_length : (fs' : List ℕ) → low < high → fs' ≡ sets (set fs low v) (low + 1) (replicate (high - (low + 1)) v) → length fs' ≡ length fs
  filled_length fs' h e = rw (filled_more fs' h e) (length-sets fs low (replicate (high - low) v))

-- what the library's fill leaves of the first k flags
pub front_filled : (v k : ℕ) (fs part : List ℕ) → k ≤ length fs → part ≡ replicate (length (take k fs)) v → part ++ drop k fs ≡ sets fs 0 (replicate k v)
front_filled v k fs part h e = rw (e, length-take-le k fs h, sets_front fs (replicate k v) (rw length-replicate h), length-replicate)

pub ruleset filled = (filled_none, filled_one, filled_more, filled_length)

-- stores of what is always said are a filling
stores_ones : (ps : List ℕ) (k i : ℕ) (fs : List ℕ) → stores (λ c. true) ps k i fs ≡ sets fs i (replicate k 1)
unfolding stores
stores_ones ps zero i fs = refl
stores_ones ps (suc k) i fs = stores_ones ps k (suc i) (set fs i 1)

pub marked_filled : (a e low high : ℕ) (ps fs fs' : List ℕ) → Bound ps a low → Bound ps (e + 1) high → Flags ps fs
    → fs' ≡ sets fs low (replicate (high - low) 1) → fs' ≡ painted (between a e) (λ c. true) ps fs
marked_filled a e low high ps fs fs' b d k h =
    h ∙ sym (stores_ones ps (high - low) low fs) ∙ rw (b.is, d.is) (painted-stores (λ c. true) a e ps fs k.rising k.beside)

-- ---- what is copied

kept_end : (fs : List ℕ) → kept fs [] ≡ []
unfolding kept
kept_end [] = refl
kept_end (f ∷ fs) = refl

kept_one : (t : Bool) (v : ℕ) (r : List ℕ) → pick (eqb (flag_of t) 0) r (v ∷ r) ≡ pick t (v ∷ r) r
kept_one true v r = refl
kept_one false v r = refl

pub kept-flagged : (p : ℕ → Bool) (cs vs : List ℕ) → kept (flagged p cs) vs ≡ keep p cs vs
unfolding kept flagged
kept-flagged p [] vs = refl
kept-flagged p (c ∷ cs) [] = refl
kept-flagged p (c ∷ cs) (v ∷ vs) = rw (kept-flagged p cs vs) (kept_one (p c) v (keep p cs vs))

-- flags past the values are not looked at
kept_front : (fs rest vs : List ℕ) → length vs ≤ length fs → kept (fs ++ rest) vs ≡ kept fs vs
unfolding kept
kept_front [] rest [] h = kept_end rest
kept_front [] rest (v ∷ vs) h = absurd (not-suc-le-zero h)
kept_front (f ∷ fs) rest [] h = refl
kept_front (f ∷ fs) rest (v ∷ vs) h = rw (kept_front fs rest vs (omega arith))

-- copying by flags that say p, whatever stands behind them
pub kept_sets : (p : ℕ → Bool) (cs vs fs : List ℕ) → length cs ≤ length fs → length vs ≤ length cs → kept (sets fs 0 (flagged p cs)) vs ≡ keep p cs vs
kept_sets p cs vs fs h l =
    rw (sets_front fs (flagged p cs) (rw (length-flagged p cs) h))
    (kept_front (flagged p cs) (drop (length (flagged p cs)) fs) vs (rw (length-flagged p cs) l) ∙ kept-flagged p cs vs)

-- i flags are passed, k values copied: what is left, copied from k, gives the whole
pub record Copying (fs vs out₀ out : List ℕ) (i k : ℕ) : Type 0 where
  pub within : i ≤ length vs
  pub left : sets out k (kept (drop i fs) (drop i vs)) ≡ sets out₀ 0 (kept fs vs)
  pub count : k + length (kept (drop i fs) (drop i vs)) ≡ length (kept fs vs)
  pub few : k ≤ i
  pub same : length out ≡ length out₀

copying_start : (fs vs out₀ : List ℕ) → Copying fs vs out₀ out₀ 0 0
copying_start fs vs out₀ = record { within = omega arith; left = refl; count = zero-add _; few = omega arith; same = refl }

module _ (fs vs out₀ out : List ℕ) (i k : ℕ) where
  copying_yes : Copying fs vs out₀ out i k → i < length vs → length vs ≤ length fs → (get_or fs i 0 ≡ 0 → ⊥) → Copying fs vs out₀ (set out k (get_or vs i 0)) (i + 1) (k + 1)
  unfolding kept
  copying_yes l h r e =
      let t = ne_eqb (get_or fs i 0) 0 e in
      let d = drop-cons fs i 0 (omega arith) in
      record {
        within = omega arith;
        left = rw (add-one i, add-one k) (rw (d, drop-cons vs i 0 h, t) at l.left);
        count = rw (add-one i) (omega (arith, rw (d, drop-cons vs i 0 h, t) at l.count));
        few = omega (arith, l.few);
        same = length-set out k (get_or vs i 0) ∙ l.same;
      }

  copying_no : Copying fs vs out₀ out i k → i < length vs → length vs ≤ length fs → get_or fs i 0 ≡ 0 → Copying fs vs out₀ out (i + 1) k
  unfolding kept
  copying_no l h r e =
      let t = eq-eqb (get_or fs i 0) 0 e in
      let d = drop-cons fs i 0 (omega arith) in
      record {
        within = omega arith;
        left = rw (add-one i) (rw (d, drop-cons vs i 0 h, t) at l.left);
        count = rw (add-one i) (rw (d, drop-cons vs i 0 h, t) at l.count);
        few = omega (arith, l.few);
        same = l.same;
      }

  copying_done : Copying fs vs out₀ out i k → length vs ≤ i → out ≡ sets out₀ 0 (kept fs vs)
  copying_done l h = rw (drop_of_length-le vs h, kept_end) at l.left

  copying_count : Copying fs vs out₀ out i k → length vs ≤ i → k ≡ length (kept fs vs)
  copying_count l h = omega (arith, rw (drop_of_length-le vs h, kept_end) at l.count)

-- two columns, copied by the same flags
pub record Pairing (fs cs gs tocs₀ togs₀ tocs togs : List ℕ) (i k : ℕ) : Type 0 where
  pub codes : Copying fs cs tocs₀ tocs i k
  pub glyphs : Copying fs gs togs₀ togs i k

module _ (fs cs gs tocs₀ togs₀ tocs togs : List ℕ) (i k : ℕ) where
  pub pairing_start : Pairing fs cs gs tocs₀ togs₀ tocs₀ togs₀ 0 0
  pairing_start = record { codes = copying_start fs cs tocs₀; glyphs = copying_start fs gs togs₀ }

  module _ (p : CopyRoom fs cs gs tocs₀ togs₀) (l : Pairing fs cs gs tocs₀ togs₀ tocs togs i k) where
    pub pairing_yes : i < length cs → (get_or fs i 0 ≡ 0 → ⊥) → Pairing fs cs gs tocs₀ togs₀ (set tocs k (get_or cs i 0)) (set togs k (get_or gs i 0)) (i + 1) (k + 1)
    pairing_yes h e =
        record {
          codes = copying_yes fs cs tocs₀ tocs i k l.codes h p.flags e;
          glyphs = copying_yes fs gs togs₀ togs i k l.glyphs (omega (arith, p.even)) (omega (arith, p.even, p.flags)) e;
        }

    pub pairing_no : i < length cs → get_or fs i 0 ≡ 0 → Pairing fs cs gs tocs₀ togs₀ tocs togs (i + 1) k
    pairing_no h e =
        record {
          codes = copying_no fs cs tocs₀ tocs i k l.codes h p.flags e;
          glyphs = copying_no fs gs togs₀ togs i k l.glyphs (omega (arith, p.even)) (omega (arith, p.even, p.flags)) e;
        }

    pub pairing_count : length cs ≤ i → k ≡ length (kept fs cs)
    pairing_count h = copying_count fs cs tocs₀ tocs i k l.codes h

    pub pairing_codes : length cs ≤ i → tocs ≡ sets tocs₀ 0 (kept fs cs)
    pairing_codes h = copying_done fs cs tocs₀ tocs i k l.codes h

    pub pairing_glyphs : length cs ≤ i → togs ≡ sets togs₀ 0 (kept fs gs)
    pairing_glyphs h = copying_done fs gs togs₀ togs i k l.glyphs (omega (arith, p.even))

pub ruleset pairing = (pairing_start, pairing_yes, pairing_no, pairing_count, pairing_codes, pairing_glyphs)
