-- What each reply writes.
use Prim.Native.Nat.{ℕ, ◌/◌, ◌%◌, ◌^◌, ◌≤◌}
use mathlib.Core.Path.{◌≡◌, refl}
use mathlib.Core.List.{List, [], ◌∷◌}
use lib.ListN.{length, take}
use native.Mathlib.Omega.{arith}
use Rattle.std.proofs.Common.{Ok, Err}
use Rattle.laws.proofs.TakeLaws.{take_counts}
use Rattle.number.specs.BigEndian.{enc}
use Rattle.job_output.specs.Output.{accepted, refused, head_of, payload_of, written_by}

pub written_acceptance : (n : ℕ) (buffer : List ℕ) → n ≤ length buffer → written_by (Ok n) buffer ≡ accepted (take n buffer)
unfolding written_by head_of payload_of accepted
written_acceptance n buffer h = rw (← take_counts n buffer h)

pub written_refusal : (number : ℕ) (buffer : List ℕ) → written_by (Err number) buffer ≡ refused number
unfolding written_by head_of payload_of refused enc
written_refusal number buffer = refl

-- four bytes at once, as the library has them
pub enc_four : (n : ℕ) → enc 4 n ≡ (n / 256 ^ 3 % 256) ∷ (n / 256 ^ 2 % 256) ∷ (n / 256 ^ 1 % 256) ∷ (n % 256) ∷ []
unfolding enc
enc_four n =
    let a : n / 256 / 256 ≡ n / 65536 = omega arith in
    let b : n / 256 / 256 / 256 ≡ n / 16777216 = omega arith in
    rw (b, a)
