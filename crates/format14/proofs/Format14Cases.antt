-- Small subtables, computed: equal tables are written once, at the place of the last; a missing table has offset 0.
use Prim.Native.Nat.{ℕ}
use mathlib.Core.Path.{◌≡◌, refl}
use mathlib.Core.List.{List, [], ◌∷◌, ◌++◌}
use Rattle.laws.specs.Pieces.{concat}
use Rattle.laws.specs.Select.{any_of, flat, eq_list}
use Rattle.laws.specs.Lasts.{among, lasts, before}
use Rattle.number.specs.BigEndian.{enc}
use Rattle.format14.specs.Format14.{tables, uvs_offset, format14}

-- a default table and two non-default tables
abbrev A : List ℕ
A = 0 ∷ 0 ∷ 0 ∷ 1 ∷ 0 ∷ 0 ∷ 0x41 ∷ 0 ∷ []

abbrev B : List ℕ
B = 0 ∷ 0 ∷ 0 ∷ 1 ∷ 0 ∷ 0 ∷ 0x42 ∷ 0 ∷ 5 ∷ []

abbrev C : List ℕ
C = 0 ∷ 0 ∷ 0 ∷ 1 ∷ 0 ∷ 0 ∷ 0x43 ∷ 0 ∷ 6 ∷ []

-- A B A C is written B A C
pub last_place : lasts (A ∷ B ∷ A ∷ C ∷ []) ≡ B ∷ A ∷ C ∷ []
unfolding lasts among any_of eq_list
last_place = refl

pub shared : format14 (record { selector = 0xFE00; default_uvs = A; non_default_uvs = B } ∷ record { selector = 0xFE01; default_uvs = A; non_default_uvs = C } ∷ [])
    ≡ 0 ∷ 14 ∷ 0 ∷ 0 ∷ 0 ∷ 58 ∷ 0 ∷ 0 ∷ 0 ∷ 2
    ∷ 0 ∷ 0xFE ∷ 0 ∷ 0 ∷ 0 ∷ 0 ∷ 41 ∷ 0 ∷ 0 ∷ 0 ∷ 32
    ∷ 0 ∷ 0xFE ∷ 1 ∷ 0 ∷ 0 ∷ 0 ∷ 41 ∷ 0 ∷ 0 ∷ 0 ∷ 49 ∷ B ++ A ++ C
unfolding format14 enc flat tables uvs_offset concat lasts before among any_of eq_list
shared = refl

pub missing : format14 (record { selector = 0xFE00; default_uvs = []; non_default_uvs = B } ∷ [])
    ≡ 0 ∷ 14 ∷ 0 ∷ 0 ∷ 0 ∷ 30 ∷ 0 ∷ 0 ∷ 0 ∷ 1 ∷ 0 ∷ 0xFE ∷ 0 ∷ 0 ∷ 0 ∷ 0 ∷ 0 ∷ 0 ∷ 0 ∷ 0 ∷ 21 ∷ B
unfolding format14 enc flat tables uvs_offset concat lasts before among any_of eq_list
missing = refl
