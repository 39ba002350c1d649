-- What a segment says is what its subtable says at its index: rules whose premises stand among a need's facts.
use Prim.Native.Nat.{ℕ, ◌+◌, ◌<◌}
use mathlib.Core.Path.{◌≡◌}
use mathlib.Core.Bool.{Bool, true, false}
use native.Mathlib.Numerals.{add-one}
use Rattle.laws.specs.Choice.{pick}
use Rattle.laws.specs.Search.{first}
use Rattle.laws.proofs.SearchLaws.{Looking, looking_no, looking_yes}
use Rattle.format4_mapped.specs.Mapped4.{Read4, last_says}
use Rattle.format4_segments.specs.declared.Format4.{Format4}
use Rattle.format4_segments.specs.declared.Segment4.{Segment4}
use Rattle.format4_segments.specs.Asked.{IsSegment, stops_at, holds_of, says_of, among_of}

module _ (f : Format4) (i : ℕ) (g : Segment4) (a : IsSegment f i g) where
  stops_there : (b : Bool) → b ≡ stops_at g.subtable.now g.index → b ≡ stops_at f i
  stops_there b e = rw (a.part, a.place) at e

  pub stop_on : (b : Bool) → Looking (stops_at f) f.place.segs i → i < f.place.segs → b ≡ stops_at g.subtable.now g.index → b ≡ false
      → Looking (stops_at f) f.place.segs (i + 1)
  stop_on b l h e q = looking_no _ _ _ _ b l h (stops_there b e) q

  pub stop_here : (b : Bool) → Looking (stops_at f) f.place.segs i → i < f.place.segs → b ≡ stops_at g.subtable.now g.index → b ≡ true
      → i ≡ first (stops_at f) f.place.segs 0
  stop_here b l h e q = looking_yes _ _ _ _ b l h (stops_there b e) q

  read_there : Read4 f.source.now f.place.at f.place.segs i g.read
  read_there = rw (a.part, a.place) at g.is_read

  pub among_on : (c : ℕ) → pick (holds_of g c) (says_of g c) (among_of f i c) ≡ among_of f (i + 1) c
  unfolding last_says
  among_on c = rw (add-one i, a.part, a.place, read_there.is)
