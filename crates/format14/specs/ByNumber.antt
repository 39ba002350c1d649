-- Inner: the tables of the selector records by number; no promise names them. Table 2k is the default table of record k, table 2k + 1 its non-default table.
use Rattle.std.specs.Prelude.{ℕ, ◌+◌, ◌*◌, ◌/◌, ◌%◌, ◌<◌, ◌≤◌, ◌≡◌, List, [], Bool, false, eqb, length, get_or}
use Rattle.laws.specs.Choice.{pick, both}
use Rattle.laws.specs.Lists.{Rising}
use Rattle.lists_marks.specs.Marks.{holds}
use Rattle.number.specs.BigEndian.{be}
use Rattle.format14_sharing.specs.declared.Measure.{Measure}
use Rattle.format14_uvs.specs.Checksum.{checksum}
use Rattle.format14_uvs.specs.Tables.{counts}
use Rattle.format14.specs.Streams.{CodePoints}
use Rattle.format14.specs.Selectors.{Job14, selector_records, selector_of, keeps_selector, default_table, non_default_table, bad_kept_record}

-- new table t: none where the selector is not kept
unfoldable pub slot : Job14 → ℕ → List ℕ
slot g t = pick (keeps_selector g (t / 2)) (pick (eqb (t % 2) 0) (default_table g (t / 2)) (non_default_table g (t / 2))) []

-- refusal 8 for it, which a non-default table alone can bring
unfoldable pub bad_slot : Job14 → ℕ → Bool
bad_slot g t = pick (eqb (t % 2) 0) false (bad_kept_record g (t / 2))

-- the offset that the source's selector record gives table t
unfoldable pub table_offset : Job14 → ℕ → ℕ
table_offset g t = be 4 g.source (g.start + 10 + 11 * (t / 2) + 3 + 4 * (t % 2))

-- that offset, or 0 where the selector is not kept or the table, with its records of 4 or 5 bytes, does not count
unfoldable pub source_table : Job14 → ℕ → ℕ
source_table g t = pick (both (holds g.kept (selector_of g (t / 2))) (counts (4 + t % 2) g.source g.start g.size (table_offset g t))) (table_offset g t) 0

-- what a search for it gives: the offset, and its bound
pub record SourceOffset (g : Job14) (t r : ℕ) : Type 0 where
  pub is : r ≡ source_table g t
  pub within : r ≤ g.size

-- a readable subtable inside the source, and lists in order
pub record Readable (xs : List ℕ) (at len : ℕ) (kept requested : List ℕ) : Type 0 where
  pub inside : at + len ≤ length xs
  pub records : 10 + 11 * be 4 xs (at + 6) ≤ len
  pub few : be 4 xs (at + 6) ≤ 512
  pub small : length xs ≤ 1048576
  pub kept_rises : Rising kept
  pub kept_few : length kept ≤ 131072
  pub kept_low : CodePoints kept
  pub requested_rises : Rising requested

abbrev pub ReadableJob : Job14 → Type 0
ReadableJob g = Readable g.source g.start g.size g.kept g.requested

-- t is the number of a table, and each kept point has a flag
pub record Numbered (g : Job14) (flags : List ℕ) (t : ℕ) : Type 0 where
  pub below : t < 2 * selector_records g
  pub beside : length g.kept ≤ length flags

-- what the length of a new table cannot exceed
abbrev pub table_max : ℕ
table_max = 1048576

-- the length of new table t, and its bound
pub record SlotLength (g : Job14) (t r : ℕ) : Type 0 where
  pub is : r ≡ length (slot g t)
  pub below : r ≤ table_max

-- what is found of new table t; the records of a default table, which has an even number, are of 4 bytes, those of another of 5
pub record Measured (g : Job14) (t : ℕ) (m : Measure) : Type 0 where
  pub size : SlotLength g t m.size
  pub sum : m.sum ≡ checksum (4 + t % 2) (slot g t)
  pub bad : m.bad ≡ bad_slot g t
  pub source : SourceOffset g t m.source

-- that of the first n tables
pub record Measures (g : Job14) (n : ℕ) (ms : List Measure) : Type 0 where
  pub room : n ≤ length ms
  pub each : (t : ℕ) (d : Measure) → t < n → Measured g t (get_or ms t d)

-- both tables are there
pub record BothThere (g : Job14) (i j : ℕ) : Type 0 where
  pub one : 0 < length (slot g i)
  pub other : 0 < length (slot g j)
