-- Loops over a row of things of which some are selected: counted, asked about, or written one after the other.
use Prim.Native.Nat.{ℕ, zero, suc, ◌+◌, ◌-◌, ◌*◌, ◌<◌, ◌≤◌}
use mathlib.Core.Path.{◌≡◌, refl, sym, ap, ◌∙◌}
use mathlib.Core.List.{List, [], ◌∷◌}
use mathlib.Core.Bool.{Bool, true, false}
use native.Mathlib.Omega.{arith}
use native.Mathlib.Nat.{mul-suc, add_comm}
use lib.ListN.{length, length-append}
use lib.Seq.{sets, length-sets}
use Rattle.laws.specs.Choice.{pick, both, either}
use Rattle.laws.specs.Search.{some}
use Rattle.laws.specs.Select.{each, select, any_of, flat}
use Rattle.laws.proofs.SetsLaws.{sets-append}

-- ---- each

module _ {A : Type 0} (f : ℕ → A) (n i : ℕ) where
  pub each_on : i < n → each f (n - i) i ≡ f i ∷ each f (n - (i + 1)) (i + 1)
  unfolding each
  each_on h =
      let m : n - i ≡ suc (n - (i + 1)) = omega arith in
      rw m

  pub each_end : n ≤ i → each f (n - i) i ≡ []
  unfolding each
  each_end h =
      let m : n - i ≡ 0 = omega arith in
      rw m

  pub each_all : each f (n - 0) 0 ≡ each f n 0
  each_all = ap (λ k. each f k 0) (omega arith)

-- ---- select

module _ {A : Type 0} (q : A → Bool) (f : ℕ → A) (n i : ℕ) where
  pub select_yes : i < n → q (f i) ≡ true → select q (each f (n - i) i) ≡ f i ∷ select q (each f (n - (i + 1)) (i + 1))
  unfolding select
  select_yes h e = rw (each_on f n i h, e)

  pub select_no : i < n → q (f i) ≡ false → select q (each f (n - i) i) ≡ select q (each f (n - (i + 1)) (i + 1))
  unfolding select
  select_no h e = rw (each_on f n i h, e)

  pub select_end : n ≤ i → select q (each f (n - i) i) ≡ []
  unfolding select
  select_end h = rw (each_end f n i h)

-- whether one of the selected passes p, asked place by place
pub any_select : {A : Type 0} (p q : A → Bool) (f : ℕ → A) (n i : ℕ) → some (λ j. both (q (f j)) (p (f j))) n i ≡ any_of p (select q (each f n i))
unfolding some any_of select each
any_select p q f zero i = refl
any_select p q f (suc n) i = by_test (any_select p q f n (i + 1)) (q (f i)) refl
  where
    by_test : some (λ j. both (q (f j)) (p (f j))) n (i + 1) ≡ any_of p (select q (each f n (i + 1)))
        → (t : Bool) → q (f i) ≡ t → either (both (q (f i)) (p (f i))) (some (λ j. both (q (f j)) (p (f j))) n (i + 1)) ≡ any_of p (pick (q (f i)) (f i ∷ select q (each f n (i + 1))) (select q (each f n (i + 1))))
    by_test rest true e = rw (e, rest)
    by_test rest false e = rw (e, rest)

-- ---- flat

pub length-flat : {A : Type 0} (w : A → List ℕ) (size : ℕ) → ((x : A) → length (w x) ≡ size) → (xs : List A) → length (flat w xs) ≡ size * length xs
unfolding flat
length-flat w size h [] = omega arith
length-flat w size h (x ∷ xs) = rw (length-append, h x, length-flat w size h xs, mul-suc) (add_comm size (size * length xs))

-- ---- counting

-- the places up to i are passed, k of them selected
pub record Counting {A : Type 0} (q : A → Bool) (f : ℕ → A) (n i k : ℕ) : Type 0 where
  pub within : i ≤ n
  pub few : k ≤ i
  pub left : k + length (select q (each f (n - i) i)) ≡ length (select q (each f n 0))

-- b is the code's own answer for the place i
module _ {A : Type 0} (q : A → Bool) (f : ℕ → A) (n : ℕ) where
  pub counting_start : Counting q f n 0 0
  counting_start = record { within = omega arith; few = omega arith; left = rw (each_all f n 0) (omega arith) }

  pub counting_yes : (i k : ℕ) (b : Bool) → Counting q f n i k → i < n → b ≡ q (f i) → b ≡ true → Counting q f n (i + 1) (k + 1)
  counting_yes i k b l h e t =
      let s = select_yes q f n i h (sym e ∙ t) in
      let m = rw s at l.left in
      record { within = omega arith; few = omega (arith, l.few); left = omega (arith, m) }

  pub counting_no : (i k : ℕ) (b : Bool) → Counting q f n i k → i < n → b ≡ q (f i) → b ≡ false → Counting q f n (i + 1) k
  counting_no i k b l h e t =
      record { within = omega arith; few = omega (arith, l.few); left = rw (select_no q f n i h (sym e ∙ t)) at l.left }

  pub counting_end : (i k : ℕ) → Counting q f n i k → n ≤ i → k ≡ length (select q (each f n 0))
  counting_end i k l h =
      let m = rw (select_end q f n i h) at l.left in
      omega (arith, m)

pub ruleset counting = (counting_start, counting_yes, counting_no, counting_end)

-- ---- writing

-- what is left of the row, written from `place` into `out`, gives the whole of it written from `to` into out₀
pub record Copying {A : Type 0} (w : A → List ℕ) (q : A → Bool) (f : ℕ → A) (n : ℕ) (out₀ : List ℕ) (to : ℕ) (out : List ℕ) (place i : ℕ) : Type 0 where
  pub within : i ≤ n
  pub same : length out ≡ length out₀
  pub room : place + length (flat w (select q (each f (n - i) i))) ≤ length out
  pub left : sets out place (flat w (select q (each f (n - i) i))) ≡ sets out₀ to (flat w (select q (each f n 0)))

module _ {A : Type 0} (w : A → List ℕ) (q : A → Bool) (f : ℕ → A) (n : ℕ) (out₀ : List ℕ) (to : ℕ) where
  pub copying_start : to + length (flat w (select q (each f n 0))) ≤ length out₀ → Copying w q f n out₀ to out₀ to 0
  copying_start h = record { within = omega arith; same = refl; room = rw (each_all f n 0) h; left = rw (each_all f n 0) }

  module _ (out : List ℕ) (place i : ℕ) (b : Bool) (l : Copying w q f n out₀ to out place i) (h : i < n) (e : b ≡ q (f i)) where
    pub copying_room : b ≡ true → place + length (w (f i)) ≤ length out
    unfolding flat
    copying_room t =
        let r = rw (select_yes q f n i h (sym e ∙ t), length-append) at l.room in
        omega (arith, r)

    pub copying_yes : b ≡ true → (next : List ℕ) → next ≡ sets out place (w (f i)) → Copying w q f n out₀ to next (place + length (w (f i))) (i + 1)
    unfolding flat
    copying_yes t next d =
        let s = select_yes q f n i h (sym e ∙ t) in
        let r = rw (s, length-append) at l.room in
        record {
          within = omega arith;
          same = rw (d, length-sets) l.same;
          room = rw (d, length-sets) (omega (arith, r));
          left = rw (d, sets-append out place (w (f i)) (flat w (select q (each f (n - (i + 1)) (i + 1))))) (rw s at l.left);
        }

    pub copying_no : b ≡ false → Copying w q f n out₀ to out place (i + 1)
    copying_no t =
        let s = select_no q f n i h (sym e ∙ t) in
        record { within = omega arith; same = l.same; room = rw s at l.room; left = rw s at l.left }

  pub copying_end : (out : List ℕ) (place i : ℕ) → Copying w q f n out₀ to out place i → n ≤ i → out ≡ sets out₀ to (flat w (select q (each f n 0)))
  unfolding flat
  copying_end out place i l h = rw (select_end q f n i h) at l.left
