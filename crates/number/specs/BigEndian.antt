-- Big-endian numbers of w bytes in a list of bytes, one definition for every width.
use Rattle.std.specs.Prelude.{ℕ, zero, suc, ◌+◌, ◌*◌, ◌/◌, ◌%◌, ◌^◌, ◌<◌, ◌≡◌, List, [], ◌∷◌, ◌++◌, get_or}
use Rattle.std.proofs.lemmas.List.Edits.{sets}

-- the value of the w bytes from `at`, the first the highest
unfoldable pub be : ℕ → List ℕ → ℕ → ℕ
be zero xs at = 0
be (suc w) xs at = be w xs at * 256 + get_or xs (at + w) 0

-- the w bytes of n, the highest first; what does not fit is lost
unfoldable pub enc : ℕ → ℕ → List ℕ
enc zero n = []
enc (suc w) n = enc w (n / 256) ++ (n % 256 ∷ [])

-- xs with the w bytes of v from `at`
unfoldable pub put : ℕ → List ℕ → ℕ → ℕ → List ℕ
put w xs at v = sets xs at (enc w v)

-- each element is a byte
abbrev pub Bytes : List ℕ → Type 0
Bytes xs = (i : ℕ) → get_or xs i 0 < 256

-- what a reader gives: the number, and its bound
pub record Num (w : ℕ) (xs : List ℕ) (at r : ℕ) : Type 0 where
  pub is : r ≡ be w xs at
  pub below : r < 256 ^ w

pub record Byte (xs : List ℕ) (at r : ℕ) : Type 0 where
  pub is : r ≡ get_or xs at 0
  pub below : r < 256
