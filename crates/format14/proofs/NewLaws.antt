-- The records taken from the flags are those of the new table, so its size and its bytes are theirs.
use Prim.Native.Nat.{ℕ, ◌+◌, ◌-◌, ◌*◌, ◌≤◌}
use mathlib.Core.Path.{◌≡◌, refl, sym, ap, ◌∙◌}
use mathlib.Core.List.{List, [], ◌∷◌}
use mathlib.Core.Bool.{Bool, true, false}
use lib.ListN.{length}
use lib.Seq.{sets}
use Rattle.laws.specs.Choice.{pick}
use Rattle.laws.specs.Lists.{Pair}
use Rattle.laws.specs.Select.{flat}
use Rattle.lists_marks.specs.Marks.{flagged}
use Rattle.number.specs.BigEndian.{be, put}
use Rattle.format14_uvs.specs.Checksum.{mixed, checksum}
use Rattle.format14_uvs.specs.Default.{follow, longest, long_ranges, single_points, in_ranges, covered_by, covered_points, range_bytes, new_records, new_default}
use Rattle.format14_uvs.proofs.ChecksumLaws.{checksum_table}
use Rattle.format14_uvs.proofs.TablesLaws.{size_none, size_some, write_none, write_room, write_some}
use Rattle.format14_ranges.specs.Stream.{DefaultLent, RangeCount, records, most_of}
use Rattle.format14.proofs.CoverLaws.{points_covered}
use Rattle.format14_ranges.proofs.StreamLaws.{range_size}

-- ranges of one point each are single points
pub longest_single : (ps : List ℕ) → longest 0 0 ps ≡ single_points ps
unfolding longest follow
longest_single [] = refl
longest_single (p ∷ ps) = ap (λ (l : List Pair). (p, 0) ∷ l) (longest_single ps)

longest_most : (t : Bool) (ps : List ℕ) → longest (pick t 255 0) 0 ps ≡ pick t (long_ranges ps) (single_points ps)
longest_most true ps = refl
longest_most false ps = longest_single ps

module _ (xs : List ℕ) (p : ℕ) (ks fs₀ fs : List ℕ) (most : ℕ) (h : DefaultLent xs p ks fs₀)
    (m : most ≡ most_of (be 4 xs p) ks) (e : fs ≡ sets fs₀ 0 (flagged (covered_by xs p) ks)) where
  pub records_new : records most ks fs 0 ≡ new_records xs p ks
  unfolding most_of
  records_new = rw (m, e, points_covered xs p ks fs₀ h.beside) (longest_most (in_ranges (be 4 xs p) ks) (covered_points xs p ks))

  pub sum_new : (sum : ℕ) → sum ≡ mixed 4 0 (flat range_bytes (records most ks fs 0)) → sum ≡ checksum 4 (new_default xs p ks)
  unfolding new_default
  sum_new sum d = d ∙ rw records_new (sym (checksum_table 4 range_bytes (new_records xs p ks)))

  module _ (k : ℕ) (c : RangeCount most ks fs k) where
    count_new : k ≡ length (new_records xs p ks)
    count_new = c.is ∙ ap (λ (l : List Pair). length l) records_new

    pub new_none : k ≡ 0 → 0 ≡ length (new_default xs p ks)
    unfolding new_default
    new_none z = size_none range_bytes (new_records xs p ks) k count_new z

    pub new_some : (k ≡ 0 → ⊥) → 4 + 4 * k ≡ length (new_default xs p ks)
    unfolding new_default
    new_some z = size_some range_bytes (new_records xs p ks) k count_new 4 range_size z

    module _ (out : List ℕ) (to : ℕ) (mid : List ℕ) (d : mid ≡ sets out (to + 4) (flat range_bytes (records most ks fs 0))) where
      pub copy_none : k ≡ 0 → mid ≡ sets out to (new_default xs p ks)
      unfolding new_default
      copy_none z = write_none range_bytes (new_records xs p ks) out to k count_new mid (rw records_new at d) z

      pub copy_some : (k ≡ 0 → ⊥) → (fin : List ℕ) → fin ≡ put 4 mid to k → fin ≡ sets out to (new_default xs p ks)
      unfolding new_default
      copy_some z fin f = write_some range_bytes (new_records xs p ks) out to k count_new mid (rw records_new at d) z fin f

  pub copy_room : (out : List ℕ) (to : ℕ) → to + length (new_default xs p ks) ≤ length out → 4 ≤ length out - to → to + 4 + length (flat range_bytes (records most ks fs 0)) ≤ length out
  unfolding new_default
  copy_room out to r l = rw records_new (write_room range_bytes (new_records xs p ks) out to r l)

pub ruleset new_rules = (new_none, new_some, copy_none, copy_some, copy_room)
