-- Numbers that stand in a list of bytes at equal steps.
use Rattle.std.specs.Prelude.{ℕ, zero, suc, ◌+◌, List, [], ◌∷◌}
use Rattle.number.specs.BigEndian.{be}

-- n numbers of w bytes each, the first at `at`, each next one `stride` bytes further
unfoldable pub column : ℕ → ℕ → List ℕ → ℕ → ℕ → List ℕ
column w stride xs at zero = []
column w stride xs at (suc n) = be w xs at ∷ column w stride xs (at + stride) n
