-- The whole subtable: its length, its outcome, and its bytes one after the other.
use Prim.Native.Nat.{ℕ, ◌+◌, ◌-◌, ◌*◌, ◌<◌, ◌≤◌}
use mathlib.Core.Path.{◌≡◌, refl, sym, ap, ◌∙◌}
use mathlib.Core.List.{List, [], ◌∷◌, ◌++◌, append_assoc}
use mathlib.Core.Bool.{Bool}
use native.Mathlib.Omega.{arith}
use lib.Dec.{eqb}
use borrow.Author.Tests.{eqb-true, eqb-false}
use lib.ListN.{length, length-append}
use lib.Seq.{sets, length-sets}
use Rattle.laws.specs.Choice.{pick}
use Rattle.laws.specs.Pieces.{concat}
use Rattle.laws.specs.Select.{flat}
use Rattle.laws.proofs.ChoiceLaws.{by_leb, by_pick, by_test}
use Rattle.laws.proofs.LastsLaws.{behind_le}
use Rattle.laws.proofs.SelectLaws.{length-flat}
use Rattle.laws.proofs.SetsLaws.{sets-append}
use Rattle.number.specs.BigEndian.{be, Num}
use Rattle.number.proofs.BigEndianLaws.{length-enc}
use Rattle.format14.specs.SelectorRecords.{used_records, record_at, header14_with, Distances}
use Rattle.format14.proofs.SelectorRecordsLaws.{records_size}
use Rattle.format14.specs.Selectors.{Job14, selector_records, names_missing}
use Rattle.format14.specs.ByNumber.{slot, ReadableJob}
use Rattle.format14.specs.declared.Outcome14.{Outcome14}
use Rattle.format14.specs.declared.Outcome14.TheVariants.{Refused8, Empty, Length}
use Rattle.format14.specs.Format14.{Row, rows, written_tables, length_of14, row_bytes, header14, format14, uvs_offset, size_of14, outcome14, length_in}
use Rattle.format14.specs.Ends.{written_from, Ends, Total}
use Rattle.format14.specs.Parts.{outcome_from, Stops, ends_at}
use Rattle.format14.proofs.RowsLaws.{written_rows, length-rows, flat_rows}
use Rattle.format14.proofs.ShortLaws.{rows_short}

length_header : (a b : ℕ) → length (header14_with a b) ≡ 10
unfolding header14_with
length_header a b = rw (length-append, length-append, length-enc 2 14, length-enc 4 a, length-enc 4 b)

pub length_head : (rs : List Row) → length (header14 rs) ≡ 10
length_head rs = rw (length-append, length-append, length-enc 2 14, length-enc 4 (length_of14 rs), length-enc 4 (length rs))

size_none : (rs : List Row) → length rs ≡ 0 → size_of14 rs ≡ Empty
unfolding size_of14
size_none [] h = refl
size_none (r ∷ rs) h = absurd (omega arith)

size_some : (rs : List Row) → (length rs ≡ 0 → ⊥) → size_of14 rs ≡ Length (length_of14 rs)
unfolding size_of14
size_some [] h = absurd (h refl)
size_some (r ∷ rs) h = refl

pub row_size : (rs : List Row) (r : Row) → length (row_bytes rs r) ≡ 11
row_size rs r = rw (length-append, length-append, length-enc 3 r.selector, length-enc 4 (uvs_offset rs r.default_uvs), length-enc 4 (uvs_offset rs r.non_default_uvs))

-- ---- header and records

length_front : (xs : List ℕ) (at total : ℕ) (ends : List ℕ) (n : ℕ)
    → length (header14_with total (length (used_records ends n)) ++ flat (record_at xs at total ends) (used_records ends n)) ≡ 10 + 11 * length (used_records ends n)
length_front xs at total ends n = rw (length-append, length_header total (length (used_records ends n)), records_size xs at total ends n [] 0)

-- n is the code's own number of records, count its number of those that have a table
module _ (xs : List ℕ) (at total : ℕ) (ends : List ℕ) (n : ℕ) (u : Num 4 xs (at + 6) n) where
  pub distances_here : Distances (be 4 xs (at + 6)) total ends → Distances n total ends
  distances_here d = rw u.is d

  pub room_here : (place : ℕ) (out : List ℕ) → place + 10 + 11 * length (used_records ends (be 4 xs (at + 6))) ≤ length out → (mid : List ℕ) → length mid ≡ length out
      → place + 10 + 11 * length (used_records ends n) ≤ length mid
  room_here place out h mid e = rw (u.is, e) h

  module _ (count place : ℕ) (out mid : List ℕ) (e₁ : mid ≡ sets out place (header14_with total count)) where
    pub front_is : count ≡ length (used_records ends n) → (fin : List ℕ) → fin ≡ sets mid (place + 10) (flat (record_at xs at total ends) (used_records ends n))
        → fin ≡ sets out place (header14_with total (length (used_records ends (be 4 xs (at + 6)))) ++ flat (record_at xs at total ends) (used_records ends (be 4 xs (at + 6))))
    front_is c fin e₂ =
        let hs = header14_with total (length (used_records ends n)) in
        let rs = flat (record_at xs at total ends) (used_records ends n) in
        let here : place + 10 ≡ place + length hs = omega (arith, length_header total (length (used_records ends n))) in
        let both : fin ≡ sets out place (hs ++ rs) = rw (e₂, e₁, c, here) (sets-append out place hs rs) in
        rw u.is at both

-- ---- from the distances of the tables

module _ (g : Job14) (ends : List ℕ) (r : ReadableJob g) where
  abbrev selectors : List ℕ
  selectors = used_records ends (selector_records g)

  abbrev last : List ℕ
  last = concat (written_from (slot g) (2 * selector_records g) 0)

  short : length_of14 (rows g) < 2147483648
  short = rows_short g (record { few = r.few; short = omega (arith, r.inside, r.small); kept_few = r.kept_few })

  module _ (e : Ends (slot g) (2 * selector_records g) ends) where
    count_rows : length selectors ≡ length (rows g)
    count_rows = length-rows g ends e

    total_rows : 10 + 11 * length selectors + length last ≡ length_of14 (rows g)
    total_rows =
        let rest = written_rows g in
        rw (count_rows, rest)

    -- ---- the outcome, from the number of records that have a table

    module _ (n count tail : ℕ) (refused : Bool) (u : Num 4 g.source (g.start + 6) n) (c : count ≡ length (used_records ends n)) (t : Total (slot g) (2 * selector_records g) tail) (b : refused ≡ names_missing g) where
      count_is : count ≡ length (rows g)
      count_is = rw u.is at c ∙ count_rows

      total_is : 10 + 11 * count + tail ≡ length_of14 (rows g)
      total_is = omega (arith, t.is, rw u.is at c, total_rows)

      size_is : pick (eqb count 0) Empty (Length (10 + 11 * count + tail)) ≡ size_of14 (rows g)
      size_is =
          by_test (pick (eqb count 0) Empty (Length (10 + 11 * count + tail)) ≡ size_of14 (rows g)) (eqb count 0)
          (λ z. rw z (sym (size_none (rows g) (sym count_is ∙ eqb-true count 0 z))))
          (λ z. rw z (ap Length total_is ∙ sym (size_some (rows g) (λ d. eqb-false count 0 z (count_is ∙ d)))))

      module _ (o : Outcome14) (d : o ≡ outcome_from refused count (10 + 11 * count + tail)) where
        pub outcome_is : o ≡ outcome14 g
        unfolding outcome_from outcome14
        outcome_is = d ∙ rw (b, size_is)

        pub outcome_short : length_in o < 4294967296
        unfolding outcome_from
        outcome_short =
            rw d
            (by_pick (λ (x : Outcome14). length_in x < 4294967296) refused Refused8 (pick (eqb count 0) Empty (Length (10 + 11 * count + tail)))
            (λ _. omega arith)
            (λ _. by_pick (λ (x : Outcome14). length_in x < 4294967296) (eqb count 0) Empty (Length (10 + 11 * count + tail)) (λ _. omega arith) (λ _. omega (arith, total_is, short))))

    -- ---- the bytes

    module _ (total : ℕ) (t : total ≡ length_of14 (rows g)) where
      sum : 10 + 11 * length selectors + length last ≡ total
      sum = total_rows ∙ sym t

      -- every distance lies inside
      pub distances : Distances (selector_records g) total ends
      distances = record {
        room = e.room;
        inside = λ k l. rw (e.each k l) (omega (arith, behind_le (slot g k) (written_from (slot g) (2 * selector_records g) 0), sum));
        fits = omega (arith, t, short);
      }

      bytes_are : header14_with total (length selectors) ++ (flat (record_at g.source g.start total ends) selectors ++ last) ≡ format14 (rows g)
      unfolding format14 header14_with
      bytes_are =
          let records = flat_rows g ends e in
          let rest = written_rows g in
          rw (t, count_rows, records, rest)

      -- the tables stand behind the header and the records
      module _ (out : List ℕ) (place : ℕ) (room : place + total ≤ length out) where
        pub records_room : place + 10 + 11 * length selectors ≤ length out
        records_room = omega (arith, sum)

        module _ (mid : List ℕ) (e₁ : mid ≡ sets out place (header14_with total (length selectors) ++ flat (record_at g.source g.start total ends) selectors)) where
          pub tables_stop : Stops (slot g) (2 * selector_records g) (place + total) mid
          tables_stop = record { room = omega (arith, sum); within = rw (e₁, length-sets) room }

          pub whole : (fin : List ℕ) → fin ≡ ends_at (place + total) mid last → fin ≡ sets out place (format14 (rows g))
          whole fin e₂ =
              let hs = header14_with total (length selectors) in
              let rs = flat (record_at g.source g.start total ends) selectors in
              let size : length (hs ++ rs) ≡ 10 + 11 * length selectors = length_front g.source g.start total ends (selector_records g) in
              let there : place + total - length last ≡ place + length (hs ++ rs) = omega (arith, size, sum) in
              e₂ ∙ rw (there, e₁, sets-append out place (hs ++ rs) last, append_assoc hs rs last) (ap (sets out place) bytes_are)

-- ---- the length covers all

pub length-format14 : (rs : List Row) → length (format14 rs) ≡ length_of14 rs
unfolding format14
length-format14 rs =
    rw (
      length-append (header14 rs) (flat (row_bytes rs) rs ++ concat (written_tables rs)),
      length_head rs,
      length-append (flat (row_bytes rs) rs) (concat (written_tables rs)),
      length-flat (row_bytes rs) 11 (row_size rs) rs,
    ) (omega arith)

-- ---- what an outcome says

abbrev tag : Outcome14 → ℕ
tag Refused8 = 0
tag Empty = 1
tag (Length n) = 2

-- a length is that of the new subtable, which has a row
pub outcome_says : (g : Job14) (n : ℕ) → Length n ≡ outcome14 g → n ≡ length (format14 (rows g))
unfolding outcome14
outcome_says g n e =
    by_test (n ≡ length (format14 (rows g))) (names_missing g)
    (λ r.
    let wrong = ap tag (rw r at e) in
    absurd (omega (arith, wrong)))
    (λ r. rows_says (rows g) n (rw r at e))
  where
    rows_says : (rs : List Row) (n : ℕ) → Length n ≡ size_of14 rs → n ≡ length (format14 rs)
    rows_says rs n e =
        by_leb (n ≡ length (format14 rs)) (length rs) 0
        (λ h.
        let wrong = ap tag (e ∙ size_none rs (omega arith)) in
        absurd (omega (arith, wrong)))
        (λ h. ap length_in (e ∙ size_some rs (λ z. omega arith)) ∙ sym (length-format14 rs))
