-- The flagged points from a place on, and the records made of them, one after the other.
use Prim.Native.Nat.{ℕ, zero, suc, ◌+◌, ◌-◌, ◌*◌, ◌%◌, ◌<◌, ◌≤◌}
use mathlib.Core.Path.{◌≡◌, refl, sym, ap, ◌∙◌}
use mathlib.Core.List.{List, [], ◌∷◌}
use mathlib.Core.Bool.{Bool, true, false}
use native.Mathlib.Nat.{add-zero, zero-add, sub-zero}
use native.Mathlib.Numerals.{add-one}
use native.Mathlib.Omega.{arith}
use borrow.Author.Tests.{eq-eqb, ne_eqb, eqb-true}
use lib.Dec.{eqb}
use lib.ListN.{length, get_or, drop, drop_of_length-le, length-append, set}
use lib.Seq.{sets, length-sets, drop-cons}
use Rattle.laws.specs.Lists.{Pair}
use Rattle.laws.specs.Select.{flat}
use Rattle.laws.proofs.SetsLaws.{sets-append, sets_snoc}
use Rattle.number.specs.BigEndian.{put, enc}
use Rattle.number.proofs.BigEndianLaws.{length-enc}
use Rattle.lists_marks.specs.Marks.{kept}
use Rattle.format14_uvs.specs.Checksum.{stirred, gathered, mixed}
use Rattle.format14_uvs.proofs.ChecksumLaws.{mixed-append}
use Rattle.format14_uvs.specs.Default.{follow, longest, range_bytes}
use Rattle.format14_ranges.specs.Stream.{flagged_points, records, KeptFlagged, NextFlagged, FlaggedPlace, NextRange, RangeCount}

-- ---- the points from a place on

module _ (ks fs : List ℕ) (i : ℕ) where
  pub points_yes : i < length ks → length ks ≤ length fs → (get_or fs i 0 ≡ 0 → ⊥) → flagged_points ks fs i ≡ get_or ks i 0 ∷ flagged_points ks fs (i + 1)
  unfolding kept
  points_yes h b f = rw (add-one i, drop-cons ks i 0 h, drop-cons fs i 0 (omega arith), ne_eqb (get_or fs i 0) 0 f)

  pub points_no : i < length ks → length ks ≤ length fs → get_or fs i 0 ≡ 0 → flagged_points ks fs i ≡ flagged_points ks fs (i + 1)
  unfolding kept
  points_no h b f = rw (add-one i, drop-cons ks i 0 h, drop-cons fs i 0 (omega arith), eq-eqb (get_or fs i 0) 0 f)

  pub points_end : length ks ≤ i → flagged_points ks fs i ≡ []
  unfolding kept
  points_end h = rw (drop_of_length-le ks h) (none (drop i fs))
    where
      none : (l : List ℕ) → kept l [] ≡ []
      none [] = refl
      none (f ∷ l) = refl

-- ---- the next flagged place

pub record Seeking (ks fs : List ℕ) (i j : ℕ) : Type 0 where
  pub low : i ≤ j
  pub within : j ≤ length ks
  pub same : flagged_points ks fs i ≡ flagged_points ks fs j

module _ (ks fs : List ℕ) (i : ℕ) where
  pub seeking_start : i ≤ length ks → Seeking ks fs i i
  seeking_start h = record { low = omega arith; within = h; same = refl }

  pub seeking_on : (j : ℕ) → Seeking ks fs i j → length ks ≤ length fs → j < length ks → get_or fs j 0 ≡ 0 → Seeking ks fs i (j + 1)
  seeking_on j s b h f = record { low = omega (arith, s.low); within = omega arith; same = s.same ∙ points_no ks fs j h b f }

  pub seeking_found : (j : ℕ) → Seeking ks fs i j → (get_or fs j 0 ≡ 0 → ⊥) → NextFlagged ks fs i j
  seeking_found j s f = record { low = s.low; within = s.within; same = s.same; flag = λ h. f }

  pub seeking_none : (j : ℕ) → Seeking ks fs i j → length ks ≤ j → NextFlagged ks fs i j
  seeking_none j s h = record { low = s.low; within = s.within; same = s.same; flag = λ l. absurd (omega arith) }

pub ruleset seeking = (seeking_start, seeking_on, seeking_found, seeking_none)

-- ---- one record

-- the records where one is begun: its start and the `additional` points after it are taken, and the points ahead are ps
unfoldable pub begun : ℕ → ℕ → ℕ → List ℕ → List Pair
begun most start additional ps =
    let n = follow (most - additional) (start + additional) ps in
    (start, additional + n) ∷ longest most n ps

module _ (most start : ℕ) where
  pub begun-start : (ps : List ℕ) → longest most 0 (start ∷ ps) ≡ begun most start 0 ps
  unfolding begun longest
  begun-start ps = rw (sub-zero most, add-zero start, zero-add (follow most start ps))

  pub begun_full : (a : ℕ) (ps : List ℕ) → most ≤ a → begun most start a ps ≡ (start, a) ∷ longest most 0 ps
  unfolding begun follow
  begun_full a ps h =
      let z : most - a ≡ 0 = omega arith in
      rw (z, add-zero a)

  pub begun_end : (a : ℕ) → begun most start a [] ≡ (start, a) ∷ longest most 0 []
  unfolding begun follow
  begun_end a = rw (none (most - a), add-zero a)
    where
      none : (m : ℕ) → follow m (start + a) [] ≡ 0
      none zero = refl
      none (suc m) = refl

  pub begun_gap : (a c : ℕ) (ps : List ℕ) → eqb c (start + a + 1) ≡ false → begun most start a (c ∷ ps) ≡ (start, a) ∷ longest most 0 (c ∷ ps)
  unfolding begun follow
  begun_gap a c ps e = rw (none (most - a), add-zero a)
    where
      none : (m : ℕ) → follow m (start + a) (c ∷ ps) ≡ 0
      none zero = refl
      none (suc m) = rw e

  pub begun_on : (a c : ℕ) (ps : List ℕ) → a < most → eqb c (start + a + 1) ≡ true → begun most start a (c ∷ ps) ≡ begun most start (a + 1) ps
  unfolding begun follow longest
  begun_on a c ps h e =
      let m : most - a ≡ suc (most - (a + 1)) = omega arith in
      let d : c ≡ start + (a + 1) = eqb-true c (start + a + 1) e ∙ omega arith in
      let n = follow (most - (a + 1)) (start + (a + 1)) ps in
      let k : a + suc n ≡ a + 1 + n = omega arith in
      rw (m, e, d, k)

-- ---- the loop that takes a record's points

-- the record that begins at i has `a` points after its start so far, and j is the next flagged place
pub record Taking (most : ℕ) (ks fs : List ℕ) (i a j : ℕ) : Type 0 where
  pub few : a ≤ most
  pub on : i < j
  pub within : j ≤ length ks
  pub flag : j < length ks → get_or fs j 0 ≡ 0 → ⊥
  pub left : begun most (get_or ks i 0) a (flagged_points ks fs j) ≡ records most ks fs i

module _ (most : ℕ) (ks fs : List ℕ) (i : ℕ) where
  pub taking_start : (j : ℕ) → FlaggedPlace ks fs i → NextFlagged ks fs (i + 1) j → Taking most ks fs i 0 j
  taking_start j s p = record {
    few = omega arith;
    on = omega (arith, p.low);
    within = p.within;
    flag = p.flag;
    left = rw (← p.same) (sym (begun-start most (get_or ks i 0) (flagged_points ks fs (i + 1))) ∙ ap (λ (l : List ℕ). longest most 0 l) (sym (points_yes ks fs i s.within s.beside s.flag)));
  }

  module _ (a j : ℕ) (t : Taking most ks fs i a j) (s : FlaggedPlace ks fs i) where
    pub taking_on : (b : Bool) (k : ℕ) → j < length ks → (a ≡ most → ⊥) → b ≡ eqb (get_or ks j 0) (get_or ks i 0 + a + 1) → b ≡ true → NextFlagged ks fs (j + 1) k → Taking most ks fs i (a + 1) k
    taking_on b k h f e y p = record {
      few = omega (arith, t.few);
      on = omega (arith, p.low, t.on);
      within = p.within;
      flag = p.flag;
      left =
          rw (← p.same) (sym (begun_on most (get_or ks i 0) a (get_or ks j 0) (flagged_points ks fs (j + 1)) (omega (arith, t.few)) (sym e ∙ y))
          ∙ ap (λ (l : List ℕ). begun most (get_or ks i 0) a l) (sym (points_yes ks fs j h s.beside (t.flag h))) ∙ t.left);
    }

    taken : begun most (get_or ks i 0) a (flagged_points ks fs j) ≡ (get_or ks i 0, a) ∷ records most ks fs j → NextRange most ks fs i a j
    taken e = record { gives = sym t.left ∙ e; few = t.few; on = t.on; within = t.within; flag = t.flag }

    pub taking_full : a ≡ most → NextRange most ks fs i a j
    taking_full e = taken (begun_full most (get_or ks i 0) a (flagged_points ks fs j) (omega arith))

    pub taking_gap : (b : Bool) → j < length ks → b ≡ eqb (get_or ks j 0) (get_or ks i 0 + a + 1) → b ≡ false → NextRange most ks fs i a j
    taking_gap b h e n =
        let d = points_yes ks fs j h s.beside (t.flag h) in
        taken (rw d (begun_gap most (get_or ks i 0) a (get_or ks j 0) (flagged_points ks fs (j + 1)) (sym e ∙ n)))

    pub taking_end : length ks ≤ j → NextRange most ks fs i a j
    taking_end h = taken (rw (points_end ks fs j h) (begun_end most (get_or ks i 0) a))

pub ruleset taking = (taking_start, taking_on, taking_full, taking_gap, taking_end)

-- ---- loops over the records

-- a loop stands at the flagged place i, or at the end
pub record Standing (ks fs : List ℕ) (i : ℕ) : Type 0 where
  pub within : i ≤ length ks
  pub flag : i < length ks → get_or fs i 0 ≡ 0 → ⊥

module _ (most : ℕ) (ks fs : List ℕ) where
  pub standing_start : (i : ℕ) → NextFlagged ks fs 0 i → Standing ks fs i
  standing_start i p = record { within = p.within; flag = p.flag }

  pub standing_on : (i a j : ℕ) → NextRange most ks fs i a j → Standing ks fs j
  standing_on i a j n = record { within = n.within; flag = n.flag }

  pub start_here : (i : ℕ) → Standing ks fs i → i < length ks → KeptFlagged ks fs → FlaggedPlace ks fs i
  start_here i s h b = record { beside = b.beside; within = h; flag = s.flag h }

  pub records_end : (i : ℕ) → length ks ≤ i → records most ks fs i ≡ []
  unfolding longest
  records_end i h = rw (points_end ks fs i h)

-- counted: k records are passed
pub record Counted (most : ℕ) (ks fs : List ℕ) (i k : ℕ) : Type 0 where
  pub standing : Standing ks fs i
  pub few : k ≤ i
  pub left : k + length (records most ks fs i) ≡ length (records most ks fs 0)

module _ (most : ℕ) (ks fs : List ℕ) (i : ℕ) where
  pub counted_start : NextFlagged ks fs 0 i → Counted most ks fs i 0
  counted_start p = record { standing = standing_start most ks fs i p; few = omega arith; left = rw p.same (zero-add (length (records most ks fs i))) }

  module _ (k : ℕ) (l : Counted most ks fs i k) where
    pub counted_here : i < length ks → KeptFlagged ks fs → FlaggedPlace ks fs i
    counted_here h b = start_here most ks fs i l.standing h b

    pub counted_on : (a j : ℕ) → NextRange most ks fs i a j → Counted most ks fs j (k + 1)
    counted_on a j n =
        let m = rw n.gives at l.left in
        record { standing = standing_on most ks fs i a j n; few = omega (arith, l.few, n.on); left = omega (arith, m) }

    pub counted_end : length ks ≤ i → KeptFlagged ks fs → RangeCount most ks fs k
    counted_end h b =
        let m = rw (records_end most ks fs i h) at l.left in
        record { is = omega (arith, m); below = omega (arith, l.few, l.standing.within, b.few) }

pub ruleset counted = (counted_start, counted_here, counted_on, counted_end)

pub range_size : (a : Pair) → length (range_bytes a) ≡ 4
range_size a = rw (length-append, length-enc 3 a.0, length-enc 1 a.1)

-- a record's bytes as one number
pub mix_range_is : (sum start additional r : ℕ) → r ≡ stirred sum (start % 16777216 * 256 + additional % 256) → r ≡ mixed 4 sum (range_bytes (start, additional))
unfolding gathered enc
mix_range_is sum start additional r e = e ∙ ap (stirred sum) (omega arith)

-- mixed into a checksum: what is left of the records, from here on, gives the whole
pub record Summed (most : ℕ) (ks fs : List ℕ) (i sum : ℕ) : Type 0 where
  pub standing : Standing ks fs i
  pub left : mixed 4 sum (flat range_bytes (records most ks fs i)) ≡ mixed 4 0 (flat range_bytes (records most ks fs 0))

module _ (most : ℕ) (ks fs : List ℕ) (i : ℕ) where
  pub summed_start : NextFlagged ks fs 0 i → Summed most ks fs i 0
  summed_start p = record { standing = standing_start most ks fs i p; left = rw p.same }

  module _ (sum : ℕ) (l : Summed most ks fs i sum) where
    pub summed_here : i < length ks → KeptFlagged ks fs → FlaggedPlace ks fs i
    summed_here h b = start_here most ks fs i l.standing h b

    pub summed_on : (a j next : ℕ) → NextRange most ks fs i a j → next ≡ mixed 4 sum (range_bytes (get_or ks i 0, a)) → Summed most ks fs j next
    unfolding flat
    summed_on a j next n e =
        record { standing = standing_on most ks fs i a j n; left = rw (e, ← mixed-append 4 sum (range_bytes (get_or ks i 0, a)) (flat range_bytes (records most ks fs j)) (omega arith) (range_size (get_or ks i 0, a))) (rw n.gives at l.left) }

    pub summed_end : length ks ≤ i → sum ≡ mixed 4 0 (flat range_bytes (records most ks fs 0))
    unfolding flat gathered
    summed_end h = rw (records_end most ks fs i h) at l.left

pub ruleset summed = (summed_start, summed_here, summed_on, summed_end)

-- written: with k records written from `to`, what is left of them, behind those, gives the whole
pub record Written (most : ℕ) (ks fs out₀ : List ℕ) (to : ℕ) (out : List ℕ) (i k : ℕ) : Type 0 where
  pub standing : Standing ks fs i
  pub same : length out ≡ length out₀
  pub room : to + 4 * k + length (flat range_bytes (records most ks fs i)) ≤ length out
  pub left : sets out (to + 4 * k) (flat range_bytes (records most ks fs i)) ≡ sets out₀ to (flat range_bytes (records most ks fs 0))

module _ (most : ℕ) (ks fs out₀ : List ℕ) (to : ℕ) where
  pub written_start : (i : ℕ) → NextFlagged ks fs 0 i → to + length (flat range_bytes (records most ks fs 0)) ≤ length out₀ → Written most ks fs out₀ to out₀ i 0
  written_start i p r =
      let z : to + 4 * 0 ≡ to = omega arith in
      record { standing = standing_start most ks fs i p; same = refl; room = rw z (rw p.same at r); left = rw (z, ← p.same) }

  module _ (out : List ℕ) (i k : ℕ) (l : Written most ks fs out₀ to out i k) where
    pub written_here : i < length ks → KeptFlagged ks fs → FlaggedPlace ks fs i
    written_here h b = start_here most ks fs i l.standing h b

    pub written_room : (a j : ℕ) → NextRange most ks fs i a j → to + 4 * k + 4 ≤ length out
    unfolding flat
    written_room a j n =
        let r = rw (n.gives, length-append, range_size (get_or ks i 0, a)) at l.room in
        omega (arith, r)

    pub written_on : (a j : ℕ) (next : List ℕ) → NextRange most ks fs i a j → next ≡ sets out (to + 4 * k) (range_bytes (get_or ks i 0, a)) → Written most ks fs out₀ to next j (k + 1)
    unfolding flat
    written_on a j next n e =
        let r = rw (n.gives, length-append, range_size (get_or ks i 0, a)) at l.room in
        let z : to + 4 * (k + 1) ≡ to + 4 * k + length (range_bytes (get_or ks i 0, a)) = rw (range_size (get_or ks i 0, a)) (omega arith) in
        record {
          standing = standing_on most ks fs i a j n;
          same = rw (e, length-sets) l.same;
          room = rw (e, length-sets) (omega (arith, r));
          left =
              rw (e, z, sets-append out (to + 4 * k) (range_bytes (get_or ks i 0, a)) (flat range_bytes (records most ks fs j)))
              (rw n.gives at l.left);
        }

    pub written_end : length ks ≤ i → out ≡ sets out₀ to (flat range_bytes (records most ks fs 0))
    unfolding flat
    written_end h = rw (records_end most ks fs i h) at l.left

pub ruleset written = (written_start, written_here, written_on, written_end)

-- one record: the start, then the byte of the points after it
pub range_is : (out mid : List ℕ) (to start a : ℕ) → mid ≡ put 3 out to start → set mid (to + 3) (a % 256) ≡ sets out to (range_bytes (start, a))
unfolding put enc
range_is out mid to start a e = rw e (sym (sets_snoc out to (enc 3 start) (a % 256)))
