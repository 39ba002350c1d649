-- Two default tables compared record by record.
use Prim.Native.Nat.{ℕ, ◌+◌, ◌<◌, ◌≤◌}
use mathlib.Core.Path.{◌≡◌, refl, sym, ◌∙◌}
use mathlib.Core.List.{List, ◌∷◌}
use mathlib.Core.Bool.{Bool, true, false, ◌&&◌}
use native.Mathlib.Omega.{arith}
use borrow.Author.Tests.{le-leb, lt-leb}
use lib.Dec.{eqb, leb}
use lib.ListN.{length, get_or}
use lib.Seq.{sets, length-sets}
use Rattle.laws.specs.Choice.{pick}
use Rattle.laws.specs.Lists.{Pair}
use Rattle.laws.specs.Select.{eq_list}
use Rattle.laws.proofs.ChoiceLaws.{by_leb}
use Rattle.laws.proofs.EqListLaws.{eq_append}
use Rattle.lists_marks.specs.Marks.{flagged}
use Rattle.number.specs.BigEndian.{be, enc}
use Rattle.number.proofs.BigEndianLaws.{length-enc}
use Rattle.format14_uvs.specs.Default.{covered_by, follow, longest, range_bytes, new_records, new_default}
use Rattle.format14_uvs.proofs.TablesLaws.{eq_table}
use Rattle.format14_ranges.specs.Stream.{DefaultLent, NextFlagged, FlaggedPlace, NextRange, flagged_points, records, most_of}
use Rattle.format14_ranges.proofs.BitsLaws.{most_few}
use Rattle.format14.proofs.NewLaws.{records_new}
use Rattle.format14_ranges.proofs.StreamLaws.{Standing, standing_start, standing_on, start_here, records_end, range_size, points_yes}
use Rattle.format14.specs.Streams.{CodePoints, RangeFits, Flagging, same_ranges}
use Rattle.format14_same.proofs.CompareLaws.{Comparing, compare_on, compare_off, compare_short, compare_long, compare_end}
use Rattle.format14_same.proofs.RowLaws.{eq_enc}

-- ---- two records

module _ (a b c d : ℕ) (f : RangeFits a b) (g : RangeFits c d) where
  bytes : eq_list (range_bytes (a, b)) (range_bytes (c, d)) ≡ pick (eqb a c) (eqb b d) false
  bytes =
      rw (eq_enc 3 a c (omega (arith, f.start_fits)) (omega (arith, g.start_fits)), eq_enc 1 b d (omega (arith, f.additional_fits)) (omega (arith, g.additional_fits)))
      (eq_append (enc 3 a) (enc 3 c) (enc 1 b) (enc 1 d) (length-enc 3 a ∙ sym (length-enc 3 c)))

  pub range_same : (eqb a c && eqb b d) ≡ eq_list (range_bytes (a, b)) (range_bytes (c, d))
  range_same = rw bytes (joined (eqb a c) (eqb b d))
    where
      joined : (x y : Bool) → (x && y) ≡ pick x y false
      joined true y = refl
      joined false y = refl

-- ---- two flaggings

pub record Pairing (ks fs : List ℕ) (most : ℕ) (gs : List ℕ) (limit i j : ℕ) : Type 0 where
  pub first : Standing ks fs i
  pub second : Standing ks gs j
  pub left : Comparing range_bytes (records most ks fs i) (records limit ks gs j) (same_ranges ks fs most gs limit)

-- at a flagged place there is a record
module _ (most : ℕ) (ks fs : List ℕ) (i : ℕ) where
  unfoldable head : Pair
  head = (get_or ks i 0, follow most (get_or ks i 0) (flagged_points ks fs (i + 1)))

  unfoldable rest : List Pair
  rest = longest most (follow most (get_or ks i 0) (flagged_points ks fs (i + 1))) (flagged_points ks fs (i + 1))

  records_some : FlaggedPlace ks fs i → records most ks fs i ≡ head ∷ rest
  unfolding head rest longest
  records_some s = rw (points_yes ks fs i s.within s.beside s.flag)

pub range_fits : (ks fs : List ℕ) (most i a next : ℕ) → Flagging ks fs most → NextRange most ks fs i a next → RangeFits (get_or ks i 0) a
range_fits ks fs most i a next f n = record { start_fits = f.points.low i; additional_fits = omega (arith, n.few, f.small) }

module _ (ks fs : List ℕ) (most : ℕ) (gs : List ℕ) (limit : ℕ) where
  pub pairing_start : (i j : ℕ) → NextFlagged ks fs 0 i → NextFlagged ks gs 0 j → Pairing ks fs most gs limit i j
  unfolding same_ranges
  pairing_start i j p q = record {
    first = standing_start most ks fs i p;
    second = standing_start limit ks gs j q;
    left = record { left = rw (p.same, q.same) };
  }

  module _ (i j : ℕ) (l : Pairing ks fs most gs limit i j) where
    pub pairing_first : i < length ks → Flagging ks fs most → FlaggedPlace ks fs i
    pairing_first h f = start_here most ks fs i l.first h f.beside

    pub pairing_second : j < length ks → Flagging ks gs limit → FlaggedPlace ks gs j
    pairing_second h f = start_here limit ks gs j l.second h f.beside

    pub pairing_short : i < length ks → length ks ≤ j → Flagging ks fs most → false ≡ same_ranges ks fs most gs limit
    pairing_short h k f =
        compare_short range_bytes 4 (omega arith) range_size l.left (head most ks fs i) (rest most ks fs i) (records_some most ks fs i (pairing_first h f)) (records_end limit ks gs j k)

    -- the first is through: the second must be too
    pub pairing_end : length ks ≤ i → Flagging ks gs limit → leb (length ks) j ≡ same_ranges ks fs most gs limit
    pairing_end h f = by_leb (leb (length ks) j ≡ same_ranges ks fs most gs limit) (length ks) j
        (λ k. le-leb (length ks) j k ∙ compare_end range_bytes 4 (omega arith) range_size l.left (records_end most ks fs i h) (records_end limit ks gs j k))
        (λ k. lt-leb (length ks) j k ∙ compare_long range_bytes 4 (omega arith) range_size l.left (head limit ks gs j) (rest limit ks gs j) (records_end most ks fs i h) (records_some limit ks gs j (pairing_second k f)))

    module _ (t : Bool) (a u b v : ℕ) (n : NextRange most ks fs i a u) (o : NextRange limit ks gs j b v) (e : t ≡ eq_list (range_bytes (get_or ks i 0, a)) (range_bytes (get_or ks j 0, b))) where
      pub pairing_on : t ≡ true → Pairing ks fs most gs limit u v
      pairing_on y = record {
        first = standing_on most ks fs i a u n;
        second = standing_on limit ks gs j b v o;
        left = compare_on range_bytes 4 (omega arith) range_size l.left (get_or ks i 0, a) (get_or ks j 0, b) (records most ks fs u) (records limit ks gs v) n.gives o.gives (sym e ∙ y);
      }

      pub pairing_off : t ≡ false → false ≡ same_ranges ks fs most gs limit
      pairing_off y = compare_off range_bytes 4 (omega arith) range_size l.left (get_or ks i 0, a) (get_or ks j 0, b) (records most ks fs u) (records limit ks gs v) n.gives o.gives (sym e ∙ y)

pub ruleset pairing = (pairing_start, pairing_short, pairing_on, pairing_off, pairing_end)

-- ---- two tables

module _ (xs : List ℕ) (ks : List ℕ) (low : CodePoints ks) where
  pub flagging_of : (p : ℕ) (fs₀ fs : List ℕ) (most : ℕ) → DefaultLent xs p ks fs₀ → fs ≡ sets fs₀ 0 (flagged (covered_by xs p) ks) → most ≡ most_of (be 4 xs p) ks → Flagging ks fs most
  flagging_of p fs₀ fs most l e m = record {
    beside = record { few = l.few; beside = rw (e, length-sets) l.beside };
    points = low;
    small = rw m (most_few (be 4 xs p) ks);
  }

pub same_new : (xs ks : List ℕ) (p : ℕ) (fs₀ fs : List ℕ) (most q : ℕ) (gs₀ gs : List ℕ) (limit : ℕ) (b : Bool)
    → DefaultLent xs p ks fs₀ → most ≡ most_of (be 4 xs p) ks → fs ≡ sets fs₀ 0 (flagged (covered_by xs p) ks)
    → DefaultLent xs q ks gs₀ → limit ≡ most_of (be 4 xs q) ks → gs ≡ sets gs₀ 0 (flagged (covered_by xs q) ks)
    → b ≡ same_ranges ks fs most gs limit → b ≡ eq_list (new_default xs p ks) (new_default xs q ks)
unfolding same_ranges new_default
same_new xs ks p fs₀ fs most q gs₀ gs limit b l m e k n d h =
    h ∙ rw (records_new xs p ks fs₀ fs most l m e, records_new xs q ks gs₀ gs limit k n d) (eq_table range_bytes 4 (omega arith) range_size (new_records xs p ks) (new_records xs q ks))
