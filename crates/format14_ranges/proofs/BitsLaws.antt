-- The bit length of a number, from its leading zeros.
use Prim.Native.Nat.{ℕ, zero, suc, ◌+◌, ◌-◌, ◌*◌, ◌^◌, ◌<◌, ◌≤◌}
use mathlib.Core.Path.{◌≡◌, sym, ◌∙◌}
use native.Mathlib.Nat.{pow-suc, mul-le-mul_right}
use Rattle.std.proofs.Math.Nat.{pow-le-pow_right}
use Rattle.std.proofs.lemmas.Nat.{leading_length}
use lib.Count.{count_leading_zeros}
use native.Mathlib.Omega.{arith}
use lib.Dec.{ltb}
use borrow.Author.Tests.{lt-ltb, le-ltb}
use Rattle.laws.proofs.ChoiceLaws.{by_leb}
use Rattle.laws.specs.Search.{first}
use Rattle.laws.proofs.FirstLaws.{first_is, first_past}
use Rattle.format14_uvs.specs.Default.{bit_length, in_ranges}
use Rattle.format14_ranges.specs.Stream.{most_of}
use mathlib.Core.List.{List}
use mathlib.Core.Bool.{Bool, true, false}
use Rattle.laws.specs.Choice.{pick}
use lib.ListN.{length}

lt_power : (b : ℕ) → b < 2 ^ b
lt_power zero = omega arith
lt_power (suc b) = rw (pow-suc 2 b) (omega (arith, lt_power b))

-- m bits hold r, and no fewer do
pub bits_are : (r m : ℕ) → r < 2 ^ m → 2 ^ m ≤ 2 * r + 1 → m ≡ bit_length r
unfolding bit_length
bits_are r m above below =
    let p : ℕ → Bool = λ b. ltb r (2 ^ b) in
    let misses : (j : ℕ) → j < m → p j ≡ false = λ j h. le-ltb r (2 ^ j) (omega (arith, below, rw (pow-suc 2 j) at (pow-le-pow_right {n = 2} (omega arith) {i = suc j} {j = m} (omega arith)))) in
    let low : m ≤ r = by_leb (m ≤ r) (suc r) m
    (λ h. absurd (omega (arith, below, rw (pow-suc 2 r) at (pow-le-pow_right {n = 2} (omega arith) {i = suc r} {j = m} h), lt_power r)))
    (λ h. omega arith) in
    by_leb (m ≡ first p r 0) r m
    (λ h.
    let few : m ≡ r = omega (arith, h, low) in
    few ∙ sym (first_past p r (λ j l. misses j (omega (arith, few, l)))))
    (λ h. sym (first_is p r m (omega arith) (lt-ltb r (2 ^ m) above) misses))

-- the bits below the zeros that a number of 32 bits begins with
pub bits_left : (r : ℕ) → r < 2 ^ 32 → 32 - count_leading_zeros 32 r ≡ bit_length r
bits_left r h =
    let found = leading_length 32 r h in
    omega (arith, found.1, bits_are r found.0 found.2 found.3)

-- ---- ranges or single points

pub product_small : (k b : ℕ) → k ≤ 131072 → b < 4294967296 → k * b < 562949953421312
product_small k b h l = omega (arith, mul-le-mul_right b h)

module _ (r b : ℕ) (ks : List ℕ) (e : b ≡ bit_length r) where
  pub most_ranges : length ks * b < r → 255 ≡ most_of r ks
  unfolding most_of in_ranges
  most_ranges h = rw (← e, lt-ltb (length ks * b) r h)

  pub most_single : r ≤ length ks * b → 0 ≡ most_of r ks
  unfolding most_of in_ranges
  most_single h = rw (← e, le-ltb (length ks * b) r h)

pub most_few : (r : ℕ) (ks : List ℕ) → most_of r ks ≤ 255
unfolding most_of
most_few r ks = few (in_ranges r ks)
  where
    few : (t : Bool) → pick t 255 0 ≤ 255
    few true = omega arith
    few false = omega arith
