-- How the header and the groups make up a subtable.
use Prim.Native.Nat.{ℕ, ◌+◌, ◌≤◌}
use mathlib.Core.Path.{◌≡◌, ◌∙◌}
use mathlib.Core.List.{List}
use native.Mathlib.Omega.{arith}
use lib.ListN.{length}
use lib.Seq.{sets}
use Rattle.laws.specs.Lists.{pairs}
use Rattle.laws.proofs.SetsLaws.{sets-append}
use Rattle.number.specs.Row.{encs}
use Rattle.format12.specs.Format12.{groups, fields, header12, group_table, format12, Columns, GroupsRoom}
use Rattle.format12.proofs.GroupsLaws.{length-groups}
use Rattle.format12.proofs.TableLaws.{length_header}

module _ (cs gs : List ℕ) (n at l : ℕ) (r : GroupsRoom (pairs cs gs) n at l) where
  pub header_room : Columns cs gs → (at + 16 ≤ l) × (n ≤ 65535)
  header_room w = (omega (arith, r.fits), omega (arith, r.found, w.few, length-groups cs gs))

  -- the groups behind the header
  pub written_table : (language : ℕ) (o mid next : List ℕ) → mid ≡ sets o at (header12 12 language n) → next ≡ sets mid (at + 16) (encs 4 (fields (groups (pairs cs gs))))
      → next ≡ sets o at (format12 language (pairs cs gs))
  unfolding group_table
  written_table language o mid next p q =
      let h = header12 12 language n in
      let b = encs 4 (fields (groups (pairs cs gs))) in
      let e : at + 16 ≡ at + length h = omega (arith, length_header 12 language n) in
      q ∙ rw (p, e, ← r.found) (sets-append o at h b)
