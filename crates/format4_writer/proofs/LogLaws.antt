-- The binary logarithm by its two bounds.
use Prim.Native.Nat.{ℕ, zero, suc, ◌+◌, ◌*◌, ◌^◌, ◌≤◌, ◌<◌}
use mathlib.Core.Path.{◌≡◌, sym}
use native.Mathlib.Omega.{arith}
use native.Mathlib.Nat.{pow-suc}
use borrow.Author.Tests.{lt-ltb, le-ltb}
use native.Mathlib.Numerals.{add-one}
use lib.Dec.{ltb}
use Rattle.std.proofs.Math.Pow.{pow_mono}
use Rattle.laws.proofs.FirstLaws.{first_is}
use Rattle.format4.specs.Format4.{floor_log2}

below_power : (e : ℕ) → e < 2 ^ e
below_power zero = omega arith
below_power (suc e) = rw (pow-suc 2 e) (omega (arith, below_power e))

module _ (s e : ℕ) (l : 2 ^ e ≤ s) (h : s < 2 * 2 ^ e) where
  pub log_small : e ≤ s
  log_small = omega (arith, below_power e)

  pub log_is : e ≡ floor_log2 s
  unfolding floor_log2
  log_is = sym (first_is (λ k. ltb s (2 ^ (k + 1))) s e (omega (arith, below_power e))
      (lt-ltb s (2 ^ (e + 1)) (rw (add-one e, pow-suc 2 e) (omega arith)))
      (λ j b. le-ltb s (2 ^ (j + 1)) (let m : 2 ^ (j + 1) ≤ 2 ^ e = pow_mono (omega arith) in omega arith)))
