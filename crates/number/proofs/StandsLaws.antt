-- The numbers of a list that stands in another: each is read there as it is read alone.
use Prim.Native.Nat.{ℕ, ◌+◌, ◌^◌, ◌<◌, ◌≤◌}
use mathlib.Core.Path.{◌≡◌, ◌∙◌}
use mathlib.Core.List.{List}
use native.Mathlib.Nat.{add_assoc}
use native.Mathlib.Omega.{arith}
use lib.ListN.{length}
use Rattle.laws.proofs.StandsLaws.{Stands}
use Rattle.number.specs.BigEndian.{be, enc}
use Rattle.number.proofs.BigEndianLaws.{be_ext, length-enc, be-enc_fits}

-- the number at j of the whole is that at i of the part
pub be_stands : {xs t : List ℕ} {at : ℕ} → Stands xs at t → (w i j : ℕ) → j ≡ at + i → i + w ≤ length t → be w xs j ≡ be w t i
be_stands {xs} {t} {at} st w i j e h = be_ext w xs t j i (λ k l. rw (e, add_assoc at i k) (st.same (i + k) (omega arith)))

-- the bytes of a number, wherever they stand, give it back
pub be_stands_enc : {xs : List ℕ} {at : ℕ} (w v : ℕ) → Stands xs at (enc w v) → v < 256 ^ w → be w xs at ≡ v
be_stands_enc {xs} {at} w v st h = be_stands st w 0 at (omega arith) (rw (length-enc w v) (omega arith)) ∙ be-enc_fits w v h
