-- Which code points a record's subtable maps, and the listed pairs among them (docs/RULES.md, "Which code points a subtable maps").
use Rattle.std.specs.Prelude.{ℕ, ◌<◌, ◌≤◌, length, take, ◌≡◌, List, map, Bool, false}
use Rattle.laws.specs.Lists.{Pair, pairs}
use Rattle.laws.specs.Select.{select}
use Rattle.source.specs.declared.Kind.{Kind}
use Rattle.source.specs.declared.Kind.TheVariants.{Format4, Format12, Format14, Unreadable}
use Rattle.source_header.specs.Header.{offset_of}
use Rattle.source.specs.Kind.{kind_at}
use Rattle.source_records.specs.Records.{leads_to}
use Rattle.lists_marks.specs.Marks.{Flags}
use Rattle.format4_mapped.specs.Mapped4.{maps4}
use Rattle.format12_mapped.specs.Mapped12.{maps12}

-- the subtable of a kind that stands at `at`, in a font of n glyphs
abbrev pub maps_as : Kind → List ℕ → ℕ → ℕ → ℕ → Bool
maps_as (Format4 language segments len) xs at n c = maps4 xs at segments len c
maps_as (Format12 language groups len) xs at n c = maps12 xs at groups n c
maps_as (Format14 selectors len) xs at n c = false
maps_as Unreadable xs at n c = false

-- the subtable of record k
unfoldable pub maps : List ℕ → ℕ → ℕ → ℕ → Bool
maps xs n k c = maps_as (leads_to xs k) xs (offset_of xs k) n c

-- the pairs of code points and glyphs, side by side, that it maps
unfoldable pub listed : List ℕ → ℕ → List ℕ → List ℕ → ℕ → List Pair
listed xs n codes glyphs k = select (λ p. maps xs n k p.0) (pairs codes glyphs)

abbrev pub code_column : List Pair → List ℕ
code_column ps = map (λ (p : Pair). p.0) ps

abbrev pub glyph_column : List Pair → List ℕ
glyph_column ps = map (λ (p : Pair). p.1) ps

-- ---- what the functions ask for and leave

-- the points rise, each has a flag, and the glyph count is that of a font
pub record PointsFlagged (n : ℕ) (points flags : List ℕ) : Type 0 where
  pub glyphs : n < 65536
  pub flagged : Flags points flags

-- and what stands at `at` is of that kind
pub record KindFlagged (kind : Kind) (xs : List ℕ) (at n : ℕ) (points flags : List ℕ) : Type 0 where
  pub found : kind ≡ kind_at xs at
  pub glyphs : n < 65536
  pub flagged : Flags points flags

-- two columns of pairs, and room to copy them to
pub record ColumnsWithRoom (cs gs tocs togs : List ℕ) : Type 0 where
  pub even : length cs ≡ length gs
  pub codes : length cs ≤ length tocs
  pub glyphs : length gs ≤ length togs

-- the pairs are the first ones of two columns, so many of them; where that is 0, nothing is said
pub record FrontOfColumns (L : List Pair) (cs gs : List ℕ) (front : ℕ) : Type 0 where
  pub within : front ≤ length cs
  pub is : 0 < front → L ≡ pairs (take front cs) (take front gs)
