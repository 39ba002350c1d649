-- Inner: what a readable subtable and its segments say, each asked as one thing; no promise names them.
use Rattle.std.specs.Prelude.{ℕ, ◌≡◌, Bool}
use Rattle.format4_mapped.specs.Mapped4.{stops4, holds4, says4, among4, maps4}
use Rattle.format4_segments.specs.declared.Format4.{Format4}
use Rattle.format4_segments.specs.declared.Segment4.{Segment4}

abbrev pub stops_at : Format4 → ℕ → Bool
stops_at f = stops4 f.source.now f.place.at f.place.segs

-- what the first n segments say of a code point
abbrev pub among_of : Format4 → ℕ → ℕ → Bool
among_of f = among4 f.source.now f.place.at f.place.segs f.place.len

abbrev pub maps_of : Format4 → ℕ → Bool
maps_of f = maps4 f.source.now f.place.at f.place.segs f.place.len

-- what a segment says of a code point that it holds
abbrev pub says_of : Segment4 → ℕ → Bool
says_of g = says4 g.subtable.now.source.now g.subtable.now.place.at g.subtable.now.place.segs g.subtable.now.place.len g.index g.read

abbrev pub holds_of : Segment4 → ℕ → Bool
holds_of g = holds4 g.read

-- g is segment i of f
pub record IsSegment (f : Format4) (i : ℕ) (g : Segment4) : Type 0 where
  pub part : g.subtable.now ≡ f
  pub place : g.index ≡ i
