-- Where the source's table of a number stands, and which new table it gives.
use Prim.Native.Nat.{ℕ, ◌+◌, ◌*◌, ◌/◌, ◌%◌, ◌<◌, ◌≤◌}
use mathlib.Core.Path.{◌≡◌, refl, sym, ap, ◌∙◌}
use mathlib.Core.List.{List, []}
use mathlib.Core.Bool.{Bool, true, false}
use native.Mathlib.Omega.{arith}
use lib.Dec.{eqb, ltb, leb}
use lib.ListN.{length}
use lib.Seq.{sets}
use borrow.Author.Tests.{eq-eqb, ne_eqb, eqb-true, eqb-false, ltb-true, leb-true}
use Rattle.laws.specs.Choice.{both}
use Rattle.laws.specs.Select.{eq_list}
use Rattle.laws.proofs.ChoiceLaws.{both_left, both_right, by_leb, by_test}
use Rattle.laws.proofs.EqListLaws.{eq_refl, eq_true}
use Rattle.laws.proofs.EitherLaws.{both_none}
use Rattle.lists_marks.specs.Marks.{holds}
use Rattle.number.specs.BigEndian.{be, Num}
use Rattle.format14_uvs.specs.Tables.{counts, counts_default, counts_non_default}
use Rattle.format14_uvs.specs.Checksum.{gathered, checksum}
use Rattle.format14_uvs.specs.Default.{new_default}
use Rattle.format14_uvs.specs.NonDefault.{new_non_default, bad_mapping}
use Rattle.format14_uvs.proofs.TablesLaws.{counts_head, counts_inside}
use Rattle.format14_ranges.specs.Stream.{DefaultLent}
use Rattle.format14_mapping.specs.Lent.{NonDefaultLent}
use Rattle.format14.proofs.ShapeLaws.{length_default, length_non_default, tables_apart}
use Rattle.format14.specs.Selectors.{Job14, keeps_selector, default_table, non_default_table, bad_record}
use Rattle.format14.specs.ByNumber.{slot, bad_slot, table_offset, source_table, SourceOffset, ReadableJob, Numbered, SlotLength, BothThere}

-- ---- the size of a record of table t

module _ (xs : List ℕ) (at len off t : ℕ) (b : Bool) where
  pub counts_even : t % 2 ≡ 0 → b ≡ counts_default xs at len off → b ≡ counts (4 + t % 2) xs at len off
  counts_even e h = rw e h

  pub counts_odd : (t % 2 ≡ 0 → ⊥) → b ≡ counts_non_default xs at len off → b ≡ counts (4 + t % 2) xs at len off
  counts_odd e h =
      let one : t % 2 ≡ 1 = omega arith in
      rw one h

pub ruleset counts_rules = (counts_even, counts_odd)

pub counts_fits : (size : ℕ) (xs : List ℕ) (at len off : ℕ) → counts size xs at len off ≡ true → (0 < off) × ((off + 4 ≤ len) × (off + 4 + size * be 4 xs (at + off) ≤ len))
unfolding counts
counts_fits size xs at len off e =
    let r = both_right (ltb 0 off) (both (leb (off + 4) len) (leb (off + 4 + size * be 4 xs (at + off)) len)) e in (
      ltb-true 0 off (both_left (ltb 0 off) (both (leb (off + 4) len) (leb (off + 4 + size * be 4 xs (at + off)) len)) e),
      (
        leb-true (off + 4) len (both_left (leb (off + 4) len) (leb (off + 4 + size * be 4 xs (at + off)) len) r),
        leb-true (off + 4 + size * be 4 xs (at + off)) len (both_right (leb (off + 4) len) (leb (off + 4 + size * be 4 xs (at + off)) len) r),
      ),
    )

-- ---- its offset

module _ (g : Job14) (t : ℕ) (x : ℕ) (b : Bool) (n : Num 3 g.source (g.start + 10 + 11 * (t / 2)) x) (h : b ≡ holds g.kept x) where
  pub source_dropped : b ≡ false → SourceOffset g t 0
  unfolding source_table
  source_dropped e = record { is = rw (← n.is, ← h, e); within = omega arith }

  module _ (off : ℕ) (d : Bool) (e : b ≡ true) (m : Num 4 g.source (g.start + 10 + 11 * (t / 2) + 3 + 4 * (t % 2)) off) (q : d ≡ counts (4 + t % 2) g.source g.start g.size off) where
    pub source_counts : d ≡ true → SourceOffset g t off
    unfolding source_table table_offset
    source_counts c = record { is = rw (← n.is, ← h, e, ← m.is, ← q, c); within = omega (arith, (counts_fits (4 + t % 2) g.source g.start g.size off (sym q ∙ c)).1.0) }

    pub source_uncounted : d ≡ false → SourceOffset g t 0
    unfolding source_table table_offset
    source_uncounted c = record { is = rw (← n.is, ← h, e, ← m.is, ← q, c); within = omega arith }

pub ruleset source_rules = (source_dropped, source_counts, source_uncounted)

-- ---- what stands there

-- a table of a g.kept selector that counts
pub record Found (g : Job14) (t off : ℕ) : Type 0 where
  pub keeps : holds g.kept (be 3 g.source (g.start + 10 + 11 * (t / 2))) ≡ true
  pub counted : counts (4 + t % 2) g.source g.start g.size off ≡ true
  pub is : off ≡ table_offset g t

module _ (g : Job14) (t : ℕ) where
  pub found : (off : ℕ) → off ≡ source_table g t → (off ≡ 0 → ⊥) → Found g t off
  unfolding source_table
  found off e z =
      let k = holds g.kept (be 3 g.source (g.start + 10 + 11 * (t / 2))) in
      let c = counts (4 + t % 2) g.source g.start g.size (table_offset g t) in
      by_test (Found g t off) (both k c)
      (λ q.
      let same : off ≡ table_offset g t = rw q at e in
      record { keeps = both_left k c q; counted = rw same (both_right k c q); is = same })
      (λ q. absurd (z (rw q at e)))

  pub source_zero : (off : ℕ) → off ≡ source_table g t → off ≡ 0
      → both (holds g.kept (be 3 g.source (g.start + 10 + 11 * (t / 2)))) (counts (4 + t % 2) g.source g.start g.size (table_offset g t)) ≡ false
  unfolding source_table
  source_zero off e z =
      let k = holds g.kept (be 3 g.source (g.start + 10 + 11 * (t / 2))) in
      let c = counts (4 + t % 2) g.source g.start g.size (table_offset g t) in
      by_test (both k c ≡ false) (both k c)
      (λ q.
      let same : off ≡ table_offset g t = rw q at e in
      absurd (omega (arith, (counts_fits (4 + t % 2) g.source g.start g.size (table_offset g t) (both_right k c q)).0)))
      (λ q. q)

  offset_even : t % 2 ≡ 0 → table_offset g t ≡ be 4 g.source (g.start + 10 + 11 * (t / 2) + 3)
  unfolding table_offset
  offset_even e = ap (be 4 g.source) (omega arith)

  offset_odd : t % 2 ≡ 1 → table_offset g t ≡ be 4 g.source (g.start + 10 + 11 * (t / 2) + 7)
  unfolding table_offset
  offset_odd e = ap (be 4 g.source) (omega arith)

  pub slot_default : (off : ℕ) → Found g t off → t % 2 ≡ 0 → slot g t ≡ new_default g.source (g.start + off) g.kept
  unfolding slot keeps_selector default_table
  slot_default off f e =
      let same : off ≡ be 4 g.source (g.start + 10 + 11 * (t / 2) + 3) = f.is ∙ offset_even e in
      let counted : counts 4 g.source g.start g.size off ≡ true = rw e at f.counted in
      rw (f.keeps, eq-eqb (t % 2) 0 e, ← same, counted)

  pub slot_non_default : (off : ℕ) → Found g t off → t % 2 ≡ 1 → slot g t ≡ new_non_default g.source (g.start + off) g.kept g.glyphs g.requested
  unfolding slot keeps_selector non_default_table
  slot_non_default off f e =
      let same : off ≡ be 4 g.source (g.start + 10 + 11 * (t / 2) + 7) = f.is ∙ offset_odd e in
      let counted : counts 5 g.source g.start g.size off ≡ true = rw e at f.counted in
      rw (f.keeps, ne_eqb (t % 2) 0 (λ z. omega (arith, e, z)), ← same, counted)

  -- a table that does not count gives none
  slot_uncounted : counts (4 + t % 2) g.source g.start g.size (table_offset g t) ≡ false → slot g t ≡ []
  unfolding slot keeps_selector default_table non_default_table
  slot_uncounted u =
      let whole : Type 0 = slot g t ≡ [] in
      by_test whole (holds g.kept (be 3 g.source (g.start + 10 + 11 * (t / 2))))
      (λ k. by_test whole (eqb (t % 2) 0)
      (λ q.
      let e = eqb-true (t % 2) 0 q in
      let none : counts 4 g.source g.start g.size (be 4 g.source (g.start + 10 + 11 * (t / 2) + 3)) ≡ false = rw (e, offset_even e) at u in
      rw (k, q, none))
      (λ q.
      let e : t % 2 ≡ 1 = omega (arith, eqb-false (t % 2) 0 q) in
      let none : counts 5 g.source g.start g.size (be 4 g.source (g.start + 10 + 11 * (t / 2) + 7)) ≡ false = rw (e, offset_odd e) at u in
      rw (k, q, none)))
      (λ k. rw k)

  slot_dropped : holds g.kept (be 3 g.source (g.start + 10 + 11 * (t / 2))) ≡ false → slot g t ≡ []
  unfolding slot keeps_selector
  slot_dropped k = rw k

  pub slot_none : (off : ℕ) → off ≡ source_table g t → off ≡ 0 → slot g t ≡ []
  slot_none off e z =
      let k = holds g.kept (be 3 g.source (g.start + 10 + 11 * (t / 2))) in
      by_test (slot g t ≡ []) k
      (λ p. slot_uncounted (rw p at (source_zero off e z)))
      slot_dropped

-- ---- what the code asks of a table it found, and what it makes of it

module _ (g : Job14) (t off : ℕ) (r : ReadableJob g) (s : SourceOffset g t off) where
  odd_one : (t % 2 ≡ 0 → ⊥) → t % 2 ≡ 1
  odd_one h = omega arith

  module _ (z : off ≡ 0 → ⊥) where
    here : Found g t off
    here = found g t off s.is z

    pub lent_default : (flags : List ℕ) → Numbered g flags t → t % 2 ≡ 0 → DefaultLent g.source (g.start + off) g.kept flags
    lent_default flags n e =
        let c : counts 4 g.source g.start g.size off ≡ true = rw e at here.counted in
        record { head = counts_head 4 g.source g.start g.size off r.inside c; inside = counts_inside 4 g.source g.start g.size off r.inside c; rises = r.kept_rises; few = r.kept_few; beside = n.beside }

    pub lent_non_default : (t % 2 ≡ 0 → ⊥) → NonDefaultLent g.source (g.start + off) g.kept g.requested
    lent_non_default h =
        let e = odd_one h in
        let c : counts 5 g.source g.start g.size off ≡ true = rw e at here.counted in
        record { head = counts_head 5 g.source g.start g.size off r.inside c; inside = counts_inside 5 g.source g.start g.size off r.inside c; kept_rises = r.kept_rises; requested_rises = r.requested_rises }

  none : off ≡ 0 → slot g t ≡ []
  none z = slot_none g t off s.is z

  default_is : (off ≡ 0 → ⊥) → t % 2 ≡ 0 → slot g t ≡ new_default g.source (g.start + off) g.kept
  default_is z e = slot_default g t off (here z) e

  non_default_is : (off ≡ 0 → ⊥) → (t % 2 ≡ 0 → ⊥) → slot g t ≡ new_non_default g.source (g.start + off) g.kept g.glyphs g.requested
  non_default_is z h = slot_non_default g t off (here z) (odd_one h)

  pub size_none : off ≡ 0 → SlotLength g t 0
  size_none z = record { is = rw (none z); below = omega arith }

  pub size_default : (n : ℕ) → (off ≡ 0 → ⊥) → t % 2 ≡ 0 → n ≡ length (new_default g.source (g.start + off) g.kept) → SlotLength g t n
  size_default n z e d = record { is = rw (default_is z e) d; below = omega (arith, d, length_default g.source (g.start + off) g.kept, r.kept_few) }

  pub size_non_default : (n : ℕ) → (off ≡ 0 → ⊥) → (t % 2 ≡ 0 → ⊥) → n ≡ length (new_non_default g.source (g.start + off) g.kept g.glyphs g.requested) → SlotLength g t n
  size_non_default n z h d =
      record { is = rw (non_default_is z h) d; below = omega (arith, d, length_non_default g.source (g.start + off) g.kept g.glyphs g.requested, (lent_non_default z h).inside, r.small) }

  pub sum_none : off ≡ 0 → 0 ≡ checksum (4 + t % 2) (slot g t)
  unfolding checksum gathered
  sum_none z = rw (none z)

  pub sum_default : (n : ℕ) → (off ≡ 0 → ⊥) → t % 2 ≡ 0 → n ≡ checksum 4 (new_default g.source (g.start + off) g.kept) → n ≡ checksum (4 + t % 2) (slot g t)
  sum_default n z e d = rw (default_is z e, e) d

  pub sum_non_default : (n : ℕ) → (off ≡ 0 → ⊥) → (t % 2 ≡ 0 → ⊥) → n ≡ checksum 5 (new_non_default g.source (g.start + off) g.kept g.glyphs g.requested) → n ≡ checksum (4 + t % 2) (slot g t)
  sum_non_default n z h d = rw (non_default_is z h, odd_one h) d

  pub bad_none : off ≡ 0 → false ≡ bad_slot g t
  unfolding bad_slot keeps_selector bad_record
  bad_none z =
      by_test (false ≡ bad_slot g t) (eqb (t % 2) 0)
      (λ q. rw q)
      (λ q.
      let odd : t % 2 ≡ 1 = odd_one (eqb-false (t % 2) 0 q) in
      let h = holds g.kept (be 3 g.source (g.start + 10 + 11 * (t / 2))) in
      let o = be 4 g.source (g.start + 10 + 11 * (t / 2) + 7) in
      let no : both h (counts 5 g.source g.start g.size o) ≡ false = rw (odd, offset_odd g t odd) at (source_zero g t off s.is z) in
      rw q (sym (both_none h (counts 5 g.source g.start g.size o) (bad_mapping g.source (g.start + o) g.kept g.glyphs g.requested) no)))

  pub bad_default : t % 2 ≡ 0 → false ≡ bad_slot g t
  unfolding bad_slot
  bad_default e = rw (eq-eqb (t % 2) 0 e)

  pub bad_non_default : (b : Bool) → (off ≡ 0 → ⊥) → (t % 2 ≡ 0 → ⊥) → b ≡ bad_mapping g.source (g.start + off) g.kept g.glyphs g.requested → b ≡ bad_slot g t
  unfolding bad_slot keeps_selector bad_record
  bad_non_default b z h e =
      let odd = odd_one h in
      let place : off ≡ be 4 g.source (g.start + 10 + 11 * (t / 2) + 7) = (here z).is ∙ offset_odd g t odd in
      let counted : counts 5 g.source g.start g.size off ≡ true = rw odd at (here z).counted in
      rw (ne_eqb (t % 2) 0 h, (here z).keeps, ← place, counted) e

  module _ (out : List ℕ) (to : ℕ) where
    pub copy_none : off ≡ 0 → out ≡ sets out to (slot g t)
    copy_none z = rw (none z)

    pub room_default : (off ≡ 0 → ⊥) → t % 2 ≡ 0 → to + length (slot g t) ≤ length out → to + length (new_default g.source (g.start + off) g.kept) ≤ length out
    room_default z e h = rw (default_is z e) at h

    pub copy_default : (off ≡ 0 → ⊥) → t % 2 ≡ 0 → (fin : List ℕ) → fin ≡ sets out to (new_default g.source (g.start + off) g.kept) → fin ≡ sets out to (slot g t)
    copy_default z e fin d = rw (default_is z e) d

    pub room_non_default : (off ≡ 0 → ⊥) → (t % 2 ≡ 0 → ⊥) → to + length (slot g t) ≤ length out → to + length (new_non_default g.source (g.start + off) g.kept g.glyphs g.requested) ≤ length out
    room_non_default z e h = rw (non_default_is z e) at h

    pub copy_non_default : (off ≡ 0 → ⊥) → (t % 2 ≡ 0 → ⊥) → (fin : List ℕ) → fin ≡ sets out to (new_non_default g.source (g.start + off) g.kept g.glyphs g.requested) → fin ≡ sets out to (slot g t)
    copy_non_default z e fin d = rw (non_default_is z e) d

pub ruleset lents = (lent_default, lent_non_default)

pub ruleset sizes = (size_none, size_default, size_non_default)

pub ruleset sums = (sum_none, sum_default, sum_non_default)

pub ruleset bads = (bad_none, bad_default, bad_non_default)

pub ruleset copies = (copy_none, copy_default, copy_non_default)

-- ---- two tables

-- tables of one sort from one place of the source
module _ (g : Job14) (i j p : ℕ) (r : ReadableJob g) (s : SourceOffset g i p) (u : SourceOffset g j p) (e : i % 2 ≡ j % 2) where
  pub slot_like : slot g i ≡ slot g j
  slot_like =
      let like : Type 0 = slot g i ≡ slot g j in
      by_test like (eqb p 0)
      (λ n.
      let z = eqb-true p 0 n in
      none g i p r s z ∙ sym (none g j p r u z))
      (λ n.
      let z = eqb-false p 0 n in
      by_test like (eqb (i % 2) 0)
      (λ q.
      let d = eqb-true (i % 2) 0 q in
      default_is g i p r s z d ∙ sym (default_is g j p r u z (sym e ∙ d)))
      (λ q.
      let d = eqb-false (i % 2) 0 q in
      non_default_is g i p r s z d ∙ sym (non_default_is g j p r u z (λ w. d (e ∙ w)))))

  pub bad_like : bad_slot g i ≡ bad_slot g j
  bad_like =
      let like : Type 0 = bad_slot g i ≡ bad_slot g j in
      by_test like (eqb p 0)
      (λ n.
      let z = eqb-true p 0 n in
      sym (bad_none g i p r s z) ∙ bad_none g j p r u z)
      (λ n.
      let z = eqb-false p 0 n in
      by_test like (eqb (i % 2) 0)
      (λ q.
      let d = eqb-true (i % 2) 0 q in
      sym (bad_default g i p r s d) ∙ bad_default g j p r u (sym e ∙ d))
      (λ q.
      let d = eqb-false (i % 2) 0 q in
      sym (bad_non_default g i p r s (bad_mapping g.source (g.start + p) g.kept g.glyphs g.requested) z d refl)
      ∙ bad_non_default g j p r u (bad_mapping g.source (g.start + p) g.kept g.glyphs g.requested) z (λ w. d (e ∙ w)) refl))

module _ (g : Job14) (t off : ℕ) (s : SourceOffset g t off) where
  -- a table that is there has its source
  pub source_there : 0 < length (slot g t) → off ≡ 0 → ⊥
  source_there h z =
      let none = slot_none g t off s.is z in
      let short = rw none at h in
      omega (arith, short)

module _ (g : Job14) (r : ReadableJob g) where
  there_found : (t : ℕ) → 0 < length (slot g t) → Found g t (source_table g t)
  there_found t l =
      found g t (source_table g t) refl
      (λ z.
      let none = slot_none g t (source_table g t) refl z in
      let short = rw none at l in
      omega (arith, short))

  unlike : (i j : ℕ) → 0 < length (slot g i) → 0 < length (slot g j) → i % 2 ≡ 0 → j % 2 ≡ 1 → slot g i ≡ slot g j → ⊥
  unlike i j a b e d same =
      let p = source_table g i in
      let q = source_table g j in
      let f = there_found j b in
      let c : counts 5 g.source g.start g.size q ≡ true = rw d at f.counted in
      let first : slot g i ≡ new_default g.source (g.start + p) g.kept = slot_default g i p (there_found i a) e in
      let second : slot g j ≡ new_non_default g.source (g.start + q) g.kept g.glyphs g.requested = slot_non_default g j q f d in
      tables_apart g.source (g.start + p) (g.start + q) g.kept g.glyphs g.requested (omega (arith, r.kept_few)) (omega (arith, counts_inside 5 g.source g.start g.size q r.inside c, r.small)) (rw first at a) (sym first ∙ same ∙ second)

  -- tables of unlike sort are not equal
  pub same_unlike : (i j : ℕ) → BothThere g i j → (i % 2 ≡ j % 2 → ⊥) → false ≡ eq_list (slot g i) (slot g j)
  same_unlike i j b n =
      by_test (false ≡ eq_list (slot g i) (slot g j)) (eq_list (slot g i) (slot g j))
      (λ q.
      let same = eq_true (slot g i) (slot g j) q in
      absurd (by_leb ⊥ (i % 2) 0
      (λ l. unlike i j b.one b.other (omega arith) (omega arith) same)
      (λ l. unlike j i b.other b.one (omega arith) (omega arith) (sym same))))
      (λ q. sym q)

module _ (g : Job14) (i j p q : ℕ) (r : ReadableJob g) (b : BothThere g i j) (s : SourceOffset g i p) (u : SourceOffset g j q) where
  one_there : p ≡ 0 → ⊥
  one_there = source_there g i p s b.one

  other_there : q ≡ 0 → ⊥
  other_there = source_there g j q u b.other

  pub one_default : (first : List ℕ) → Numbered g first i → i % 2 ≡ 0 → DefaultLent g.source (g.start + p) g.kept first
  one_default first m z = lent_default g i p r s one_there first m z

  pub other_default : (second : List ℕ) → Numbered g second j → i % 2 ≡ j % 2 → i % 2 ≡ 0 → DefaultLent g.source (g.start + q) g.kept second
  other_default second n e z = lent_default g j q r u other_there second n (omega (arith, e, z))

  pub one_non_default : (i % 2 ≡ 0 → ⊥) → NonDefaultLent g.source (g.start + p) g.kept g.requested
  one_non_default z = lent_non_default g i p r s one_there z

  pub other_non_default : i % 2 ≡ j % 2 → (i % 2 ≡ 0 → ⊥) → NonDefaultLent g.source (g.start + q) g.kept g.requested
  other_non_default e z = lent_non_default g j q r u other_there (λ n. z (e ∙ n))

  -- tables of one sort from one place
  pub same_place : i % 2 ≡ j % 2 → p ≡ q → true ≡ eq_list (slot g i) (slot g j)
  same_place e d = rw (slot_like g i j q r (rw d at s) u e) (sym (eq_refl (slot g j)))

  module _ (c : Bool) where
    pub same_default_is : i % 2 ≡ j % 2 → i % 2 ≡ 0 → c ≡ eq_list (new_default g.source (g.start + p) g.kept) (new_default g.source (g.start + q) g.kept)
        → c ≡ eq_list (slot g i) (slot g j)
    same_default_is e z h =
        rw (default_is g i p r s one_there z, default_is g j q r u other_there (sym e ∙ z)) h

    pub same_non_default_is : i % 2 ≡ j % 2 → (i % 2 ≡ 0 → ⊥) → c ≡ eq_list (new_non_default g.source (g.start + p) g.kept g.glyphs g.requested) (new_non_default g.source (g.start + q) g.kept g.glyphs g.requested)
        → c ≡ eq_list (slot g i) (slot g j)
    same_non_default_is e z h =
        rw (non_default_is g i p r s one_there z, non_default_is g j q r u other_there (λ n. z (e ∙ n))) h

pub ruleset sames = (same_unlike, same_place, same_default_is, same_non_default_is)
