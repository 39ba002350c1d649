-- A loop that stores one number after the other: the rest, stored from here, gives the whole.
use Prim.Native.Nat.{ℕ, suc, ◌+◌, ◌-◌, ◌<◌, ◌≤◌}
use mathlib.Core.Path.{◌≡◌, refl, ◌∙◌}
use mathlib.Core.List.{List, append-nil}
use native.Mathlib.Nat.{sub-zero}
use native.Mathlib.Numerals.{add-one}
use native.Mathlib.Omega.{arith}
use lib.ListN.{length, set, length-set, drop_of_length-le}
use lib.Seq.{sets}
use Rattle.laws.specs.Select.{each}
use Rattle.laws.proofs.FrontLaws.{sets_front}

-- i of the n numbers that f gives are stored
pub record Storing (f : ℕ → ℕ) (n : ℕ) (out₀ out : List ℕ) (i : ℕ) : Type 0 where
  pub left : sets out i (each f (n - i) i) ≡ sets out₀ 0 (each f n 0)
  pub same : length out ≡ length out₀

pub storing_start : (f : ℕ → ℕ) (n : ℕ) (out₀ : List ℕ) → Storing f n out₀ out₀ 0
storing_start f n out₀ = record { left = rw (sub-zero n); same = refl }

module _ {f : ℕ → ℕ} {n : ℕ} {out₀ out : List ℕ} {i : ℕ} (l : Storing f n out₀ out i) where
  pub storing_on : (v : ℕ) → i < n → v ≡ f i → Storing f n out₀ (set out i v) (i + 1)
  unfolding each
  storing_on v h e =
      let m : n - i ≡ suc (n - (i + 1)) = omega arith in
      record { left = rw (add-one i, e) (rw (m, add-one i) at l.left); same = length-set out i v ∙ l.same }

  pub storing_done : n ≤ i → out ≡ sets out₀ 0 (each f n 0)
  unfolding each
  storing_done h =
      let m : n - i ≡ 0 = omega arith in
      rw m at l.left

-- what takes all places is all that is left
pub sets_whole : (l vs : List ℕ) → length vs ≡ length l → sets l 0 vs ≡ vs
sets_whole l vs e = rw (sets_front l vs (omega (arith, e)), drop_of_length-le l {i = length vs} (omega (arith, e)), append-nil vs)
