-- Which glyph a map gives, and which it misses; mappings measured and written: the code's answers are the definitions'.
use Prim.Native.Nat.{ℕ, ◌+◌, ◌-◌, ◌*◌, ◌<◌, ◌≤◌}
use mathlib.Core.Path.{◌≡◌, refl, sym, ap, ◌∙◌}
use mathlib.Core.List.{List}
use mathlib.Core.Bool.{Bool, true, false}
use native.Mathlib.Omega.{arith}
use borrow.Author.Tests.{lt-leb, le-leb}
use lib.ListN.{length, get_or, length-append, get_or-eq_default}
use lib.Dec.{eqb}
use lib.Seq.{sets}
use Rattle.laws.proofs.ChoiceLaws.{by_leb}
use Rattle.number.specs.BigEndian.{be, enc, put, Num}
use Rattle.number.proofs.BigEndianLaws.{put_after, length-enc}
use Rattle.number.specs.Limits.{absent}
use Rattle.laws.specs.Lists.{Pair}
use Rattle.laws.specs.Select.{each, select, any_of, flat}
use Rattle.laws.specs.Choice.{either}
use Rattle.laws.proofs.EitherLaws.{either_none}
use Rattle.laws.proofs.SelectLaws.{each_all, select_yes, select_no, select_end, Counting, counting_end, Copying, copying_start, copying_room, copying_yes, copying_no, copying_end}
use Rattle.format14_uvs.specs.Checksum.{stirred, gathered, mixed, checksum}
use Rattle.format14_uvs.proofs.TablesLaws.{size_none, size_some}
use Rattle.format14_uvs.proofs.ChecksumLaws.{checksum_table, Summing, summing_end}
use Rattle.format14_uvs.specs.NonDefault.{mapping, mapping_at, mapping_bytes, keeps_mapping, kept_mappings, new_non_default, missing, bad_mapping}
use Rattle.format14_mapping.specs.Lent.{MappingCount, NewNumber}

-- ---- the map

-- a glyph is missing exactly where the map's entry, taken as absent past the end, is absent
pub missing-absent : (map : List ℕ) (g : ℕ) → missing map g ≡ eqb (get_or map g absent) absent
unfolding missing
missing-absent map g = by_leb (missing map g ≡ eqb (get_or map g absent) absent) (length map) g
    (λ h. rw (le-leb (length map) g h, get_or-eq_default map absent h))
    (λ h. rw (lt-leb (length map) g h))

-- ---- refusal 8 in a walk over the mappings

-- whether one passed or still to come, of those that stay, names a missing glyph is what is asked of all
pub record Judging (xs : List ℕ) (p : ℕ) (kept map requested : List ℕ) (m i : ℕ) (bad : Bool) : Type 0 where
  pub left : either bad (any_of (λ q. missing map q.1) (select (keeps_mapping kept requested) (each (mapping_at xs p) (m - i) i)))
      ≡ any_of (λ q. missing map q.1) (select (keeps_mapping kept requested) (each (mapping_at xs p) m 0))

module _ (xs : List ℕ) (p : ℕ) (kept map requested : List ℕ) (m : ℕ) where
  pub judging_start : Judging xs p kept map requested m 0 false
  judging_start = record { left = rw (each_all (mapping_at xs p) m 0) }

  module _ (i : ℕ) (bad b : Bool) (l : Judging xs p kept map requested m i bad) (h : i < m) (e : b ≡ keeps_mapping kept requested (mapping_at xs p i)) where
    pub judging_yes : b ≡ true → (next : Bool) → next ≡ either bad (missing map (mapping_at xs p i).1) → Judging xs p kept map requested m (i + 1) next
    unfolding any_of
    judging_yes t next d = record {
      left =
          rw (d, either_assoc bad (missing map (mapping_at xs p i).1) (any_of (λ q. missing map q.1) (select (keeps_mapping kept requested) (each (mapping_at xs p) (m - (i + 1)) (i + 1)))))
          (rw (select_yes (keeps_mapping kept requested) (mapping_at xs p) m i h (sym e ∙ t)) at l.left);
    }
      where
        either_assoc : (a b c : Bool) → either (either a b) c ≡ either a (either b c)
        either_assoc true b c = refl
        either_assoc false b c = refl

    pub judging_no : b ≡ false → Judging xs p kept map requested m (i + 1) bad
    judging_no t = record { left = rw (select_no (keeps_mapping kept requested) (mapping_at xs p) m i h (sym e ∙ t)) at l.left }

  pub judging_end : (i : ℕ) (bad : Bool) → Num 4 xs p m → Judging xs p kept map requested m i bad → m ≤ i → bad ≡ bad_mapping xs p kept map requested
  unfolding bad_mapping any_of
  judging_end i bad n l h = sym (either_none bad) ∙ rw (select_end (keeps_mapping kept requested) (mapping_at xs p) m i h, n.is) at l.left

pub ruleset judging = (judging_start, judging_yes, judging_no, judging_end)

pub count_all : (xs : List ℕ) (p : ℕ) (kept requested : List ℕ) (m i k : ℕ) → Num 4 xs p m → Counting (keeps_mapping kept requested) (mapping_at xs p) m i k → m ≤ i
    → MappingCount xs p kept requested k
count_all xs p kept requested m i k n l h = record {
  is = rw n.is at (counting_end (keeps_mapping kept requested) (mapping_at xs p) m i k l h);
  below = omega (arith, l.few, l.within, n.below);
}

-- ---- measured: length and checksum

pub mapping_size : (map : List ℕ) (m : Pair) → length (mapping_bytes map m) ≡ 5
mapping_size map m = rw (length-append, length-enc 3 m.0, length-enc 2 (get_or map m.1 absent))

-- one mapping more
module _ (xs : List ℕ) (place : ℕ) (map : List ℕ) (g n : ℕ) (hg : Num 2 xs (place + 3) g) (hn : NewNumber map g n) (bad : Bool) where
  pub bad_new : bad ≡ false → eqb n absent ≡ either bad (missing map (mapping xs place).1)
  bad_new e = rw (e, missing-absent map (be 2 xs (place + 3)), ← hg.is, ← hn.is)

-- v and w are the code point and the new glyph as they are mixed in
pub mix_is : (xs : List ℕ) (place : ℕ) (map : List ℕ) (sum c g n v w r : ℕ) → Num 3 xs place c → Num 2 xs (place + 3) g → NewNumber map g n → v ≡ c → w ≡ n
    → r ≡ stirred sum (v * 65536 + w) → r ≡ mixed 5 sum (mapping_bytes map (mapping xs place))
unfolding gathered enc
mix_is xs place map sum c g n v w r hc hg hn d u e =
    let below = hc.below in
    let low = hn.below in
    rw (← hc.is, ← hg.is, ← hn.is) (e ∙ ap (stirred sum) (omega (arith, below, low, d, u)))

-- the length from the count
module _ (xs : List ℕ) (p : ℕ) (kept map requested : List ℕ) (m i k : ℕ) (n : Num 4 xs p m) (l : Counting (keeps_mapping kept requested) (mapping_at xs p) m i k) (h : m ≤ i) where
  pub length_none : k ≡ 0 → 0 ≡ length (new_non_default xs p kept map requested)
  unfolding new_non_default
  length_none z = size_none (mapping_bytes map) (kept_mappings xs p kept requested) k (count_all xs p kept requested m i k n l h).is z

  pub length_some : (k ≡ 0 → ⊥) → 4 + 5 * k ≡ length (new_non_default xs p kept map requested)
  unfolding new_non_default
  length_some z = size_some (mapping_bytes map) (kept_mappings xs p kept requested) k (count_all xs p kept requested m i k n l h).is 5 (mapping_size map) z

pub ruleset lengths = (length_none, length_some)

pub sum_all : (xs : List ℕ) (p : ℕ) (kept map requested : List ℕ) (m i sum : ℕ) → Num 4 xs p m → Summing 5 (mapping_bytes map) (keeps_mapping kept requested) (mapping_at xs p) m i sum → m ≤ i
    → sum ≡ checksum 5 (new_non_default xs p kept map requested)
unfolding new_non_default
sum_all xs p kept map requested m i sum n l h =
    rw n.is at (summing_end 5 (mapping_bytes map) (keeps_mapping kept requested) (mapping_at xs p) m i sum l h)
    ∙ sym (checksum_table 5 (mapping_bytes map) (kept_mappings xs p kept requested))

-- ---- one mapping written

-- the code point, then the new glyph behind it
pub copy_is : (xs : List ℕ) (place : ℕ) (map out mid fin : List ℕ) (to c g n w : ℕ) → Num 3 xs place c → Num 2 xs (place + 3) g → NewNumber map g n → w ≡ n
    → mid ≡ put 3 out to c → fin ≡ put 2 mid (to + 3) w → fin ≡ sets out to (mapping_bytes map (mapping xs place))
unfolding put
copy_is xs place map out mid fin to c g n w hc hg hn u e d =
    rw (d, e, u, ← hc.is, ← hg.is, ← hn.is) (put_after 2 out to (enc 3 c) n (to + 3) (rw (length-enc 3 c)))

-- ---- all that stay, written one after the other

module _ (xs : List ℕ) (p : ℕ) (kept map requested : List ℕ) (m : ℕ) (out₀ : List ℕ) (to : ℕ) where
  -- the loop's invariant: n mappings are written
  abbrev pub Copies : List ℕ → ℕ → ℕ → Type 0
  Copies out n i = Copying (mapping_bytes map) (keeps_mapping kept requested) (mapping_at xs p) m out₀ to out (to + 5 * n) i

  pub copies_start : Num 4 xs p m → to + length (flat (mapping_bytes map) (kept_mappings xs p kept requested)) ≤ length out₀ → Copies out₀ 0 0
  copies_start k h =
      let z : to + 5 * 0 ≡ to = omega arith in
      rw z (copying_start (mapping_bytes map) (keeps_mapping kept requested) (mapping_at xs p) m out₀ to (rw k.is h))

  module _ (out : List ℕ) (n i : ℕ) (b : Bool) (l : Copies out n i) (h : i < m) (e : b ≡ keeps_mapping kept requested (mapping_at xs p i)) where
    pub copies_room : b ≡ true → to + 5 * n + 5 ≤ length out
    copies_room t = rw (mapping_size map (mapping_at xs p i)) at (copying_room (mapping_bytes map) (keeps_mapping kept requested) (mapping_at xs p) m out₀ to out (to + 5 * n) i b l h e t)

    pub copies_yes : b ≡ true → (next : List ℕ) → next ≡ sets out (to + 5 * n) (mapping_bytes map (mapping_at xs p i)) → Copies next (n + 1) (i + 1)
    copies_yes t next d =
        let z : to + 5 * n + 5 ≡ to + 5 * (n + 1) = omega arith in
        rw (mapping_size map (mapping_at xs p i), z) at (copying_yes (mapping_bytes map) (keeps_mapping kept requested) (mapping_at xs p) m out₀ to out (to + 5 * n) i b l h e t next d)

    pub copies_no : b ≡ false → Copies out n (i + 1)
    copies_no t = copying_no (mapping_bytes map) (keeps_mapping kept requested) (mapping_at xs p) m out₀ to out (to + 5 * n) i b l h e t

  pub copies_end : Num 4 xs p m → (out : List ℕ) (n i : ℕ) → Copies out n i → m ≤ i → out ≡ sets out₀ to (flat (mapping_bytes map) (kept_mappings xs p kept requested))
  copies_end k out n i l h = rw k.is at (copying_end (mapping_bytes map) (keeps_mapping kept requested) (mapping_at xs p) m out₀ to out (to + 5 * n) i l h)

pub ruleset copies = (copies_start, copies_yes, copies_no, copies_end)
