-- How long a new table can be, and why a default table never equals a non-default one.
use Prim.Native.Nat.{ℕ, ◌+◌, ◌*◌, ◌^◌, ◌<◌, ◌≤◌}
use mathlib.Core.Path.{◌≡◌, ◌∙◌}
use mathlib.Core.List.{List, [], ◌∷◌, ◌++◌, map}
use native.Mathlib.Omega.{arith}
use lib.ListN.{length, length-append}
use Rattle.laws.specs.Select.{flat}
use Rattle.laws.proofs.LengthLaws.{length-each, length-select}
use Rattle.laws.proofs.SelectLaws.{length-flat}
use Rattle.number.specs.BigEndian.{be, enc}
use Rattle.number.proofs.BigEndianLaws.{length-enc, be_front, be-enc_fits}
use Rattle.format14_uvs.specs.Tables.{uvs_table}
use Rattle.format14_uvs.specs.Default.{new_default, new_records, range_bytes}
use Rattle.format14_uvs.specs.NonDefault.{new_non_default, kept_mappings, keeps_mapping, mappings, mapping_at, mapping_bytes}
use Rattle.format14.proofs.CoversLaws.{length_records}
use Rattle.format14_ranges.proofs.StreamLaws.{range_size}
use Rattle.format14_mapping.proofs.MappingLaws.{mapping_size}

-- ---- tables of records of one size

module _ {A : Type 0} (w : A → List ℕ) (size : ℕ) (h : (x : A) → length (w x) ≡ size) where
  length_table : (xs : List A) → length (uvs_table w xs) ≤ 4 + size * length xs
  unfolding uvs_table
  length_table [] = omega arith
  length_table (x ∷ xs) = rw (length-append, length-enc, length-flat w size h (x ∷ xs)) (omega arith)

  -- the count tells the length
  table_shape : (xs : List A) → length xs < 256 ^ 4 → 0 < length (uvs_table w xs)
      → (length (uvs_table w xs) ≡ 4 + size * be 4 (uvs_table w xs) 0) × (0 < be 4 (uvs_table w xs) 0)
  unfolding uvs_table
  table_shape [] l z = absurd (omega arith)
  table_shape (x ∷ xs) l z =
      let n = length (x ∷ xs) in
      let count : be 4 (enc 4 n ++ flat w (x ∷ xs)) 0 ≡ n = be_front 4 (enc 4 n) (flat w (x ∷ xs)) 0 (rw (length-enc 4 n) (omega arith)) ∙ be-enc_fits 4 n l in
      (rw (count, length-append, length-enc, length-flat w size h (x ∷ xs)), rw count (omega arith))

-- ---- default and non-default

module _ (xs : List ℕ) (p : ℕ) (kept : List ℕ) where
  pub length_default : length (new_default xs p kept) ≤ 4 + 4 * length kept
  unfolding new_default
  length_default = omega (arith, length_table range_bytes 4 range_size (new_records xs p kept), length_records xs p kept)

  -- the count tells how long a table is
  pub default_shape : length kept < 256 ^ 4 → 0 < length (new_default xs p kept) → length (new_default xs p kept) ≡ 4 + 4 * be 4 (new_default xs p kept) 0
  unfolding new_default
  default_shape b z = (table_shape range_bytes 4 range_size (new_records xs p kept) (omega (arith, length_records xs p kept)) z).0

  module _ (map requested : List ℕ) where
    length_mappings : length (kept_mappings xs p kept requested) ≤ be 4 xs p
    length_mappings = omega (arith, length-select (keeps_mapping kept requested) (mappings xs p), length-each (mapping_at xs p) (be 4 xs p) 0)

    pub length_non_default : length (new_non_default xs p kept map requested) ≤ 4 + 5 * be 4 xs p
    unfolding new_non_default
    length_non_default = omega (arith, length_table (mapping_bytes map) 5 (mapping_size map) (kept_mappings xs p kept requested), length_mappings)

    pub non_default_shape : be 4 xs p < 256 ^ 4 → 0 < length (new_non_default xs p kept map requested)
        → length (new_non_default xs p kept map requested) ≡ 4 + 5 * be 4 (new_non_default xs p kept map requested) 0
    unfolding new_non_default
    non_default_shape b z = (table_shape (mapping_bytes map) 5 (mapping_size map) (kept_mappings xs p kept requested) (omega (arith, length_mappings)) z).0

-- counts equal, 4 + 4n bytes would be 4 + 5n
pub tables_apart : (xs : List ℕ) (p q : ℕ) (kept map requested : List ℕ) → length kept < 256 ^ 4 → be 4 xs q < 256 ^ 4 → 0 < length (new_default xs p kept)
    → new_default xs p kept ≡ new_non_default xs q kept map requested → ⊥
unfolding new_default new_non_default
tables_apart xs p q kept map requested a b z e =
    let d = table_shape range_bytes 4 range_size (new_records xs p kept) (omega (arith, length_records xs p kept)) z in
    let n = table_shape (mapping_bytes map) 5 (mapping_size map) (kept_mappings xs q kept requested) (omega (arith, length_mappings xs q kept map requested)) (rw e at z) in
    let far = rw e at d.0 in
    omega (arith, far, n.0, n.1)
