-- A row of numbers, each in w bytes, one after the other.
use Rattle.std.specs.Prelude.{ℕ, List, [], ◌∷◌, ◌++◌}
use Rattle.number.specs.BigEndian.{enc}

unfoldable pub encs : ℕ → List ℕ → List ℕ
encs w [] = []
encs w (v ∷ vs) = enc w v ++ encs w vs
