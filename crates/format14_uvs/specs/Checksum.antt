-- Inner: a checksum of a new table's bytes, by which the code tells most unequal tables apart at once. Nothing that is promised rests on what it is:
-- equal tables of one sort have equal checksums because a checksum is made from the bytes alone, and no more is used.
use Rattle.std.specs.Prelude.{ℕ, zero, suc, ◌+◌, ◌-◌, ◌*◌, ◌/◌, ◌%◌, List, [], ◌∷◌, drop}

-- Two halves of 32 bits, each squared and folded, so that no sum of unlike tables is foreseen by adding.
unfoldable pub stirred : ℕ → ℕ → ℕ
stirred sum v =
    let high = sum / 4294967296 in
    let low = sum % 4294967296 in
    let x = high * high + low + v % 2147483648 + 1640531527 in
    let y = low * low + high + v / 512 % 2147483648 + 1013904223 in
    (x / 4294967296 * 5 + x % 4294967296) % 4294967296 * 4294967296 + (y / 4294967296 * 17 + y % 4294967296) % 4294967296

-- Bytes gathered into numbers of `size` bytes, each stirred in once it is whole: v is what there is of one, and k bytes come before its last.
unfoldable pub gathered : ℕ → ℕ → ℕ → ℕ → List ℕ → ℕ
gathered size k v sum [] = sum
gathered size zero v sum (b ∷ bs) = gathered size (size - 1) 0 (stirred sum (v * 256 + b)) bs
gathered size (suc k) v sum (b ∷ bs) = gathered size k (v * 256 + b) sum bs

-- records of `size` bytes, one after the other
abbrev pub mixed : ℕ → ℕ → List ℕ → ℕ
mixed size sum bs = gathered size (size - 1) 0 sum bs

-- of a table: of the records behind its count
unfoldable pub checksum : ℕ → List ℕ → ℕ
checksum size t = mixed size 0 (drop 4 t)
