-- A walk over the segments of a format 4 subtable, for the flags of many code points.
use Prim.Native.Nat.{ℕ, ◌+◌, ◌<◌, ◌≤◌}
use mathlib.Core.Path.{◌≡◌, sym, ap, ◌∙◌}
use mathlib.Core.List.{List}
use mathlib.Core.Bool.{Bool, true, false}
use lib.Seq.{sets}
use lib.ListN.{length, replicate, length-replicate}
use Rattle.laws.proofs.ChoiceLaws.{false-true}
use Rattle.laws.proofs.FrontLaws.{sets_over}
use Rattle.laws.proofs.SearchLaws.{Looking, looking_start, looking_none}
use Rattle.lists_marks.specs.Marks.{flagged, painted, Flags, Cleared}
use Rattle.lists_marks.proofs.MarksLaws.{Saying, saying_none, saying_on, flagged_ext, length-flagged, cleared}
use Rattle.format4_collect.specs.Walks.{Walked}
use Rattle.format4_mapped.specs.Mapped4.{last_says, maps4}
use Rattle.format4_segments.specs.declared.Format4.{Format4}
use Rattle.format4_segments.specs.declared.Segment4.{Segment4}
use Rattle.format4_segments.specs.Asked.{IsSegment, stops_at, holds_of, says_of, among_of, maps_of}
use Rattle.format4_segments.proofs.SegmentLaws.{stop_on, stop_here, among_on}

module _ (f : Format4) where
  -- i segments are walked: what the flags say so far
  pub record Collecting (ps fs₀ fs : List ℕ) (i : ℕ) : Type 0 where
    pub looking : Looking (stops_at f) f.place.segs i
    pub say : Saying (among_of f i) ps fs₀ fs

  pub collecting_start : (ps fs₀ : List ℕ) → Cleared (length ps) fs₀ → Collecting ps fs₀ fs₀ 0
  unfolding last_says
  collecting_start ps fs₀ e = record { looking = looking_start (stops_at f) f.place.segs; say = saying_none e }

  module _ (ps fs₀ fs : List ℕ) where
    pub collecting_on : (i : ℕ) (g : Segment4) (b : Bool) (fs' : List ℕ) → Collecting ps fs₀ fs i → i < f.place.segs → IsSegment f i g
        → b ≡ stops_at g.subtable.now g.index → b ≡ false → Flags ps fs₀ → fs' ≡ painted (holds_of g) (says_of g) ps fs → Collecting ps fs₀ fs' (i + 1)
    collecting_on i g b fs' l h r d e k q =
        record {
          looking = stop_on f i g r b l.looking h d e;
          say = saying_on (holds_of g) (says_of g) (among_of f (i + 1)) l.say k q (among_on f i g r);
        }

    pub collecting_stop : (i : ℕ) (g : Segment4) (b : Bool) → Collecting ps fs₀ fs i → i < f.place.segs → IsSegment f i g → b ≡ stops_at g.subtable.now g.index → b ≡ true
        → fs ≡ sets fs₀ 0 (flagged (maps_of f) ps)
    unfolding maps4
    collecting_stop i g b l h r d e =
        l.say.is
        ∙ rw (flagged_ext (among_of f i) (maps_of f) (λ c. ap (λ n. among_of f n c) (stop_here f i g r b l.looking h d e)) ps)

    pub collecting_end : (i : ℕ) → Collecting ps fs₀ fs i → f.place.segs ≤ i → fs ≡ sets fs₀ 0 (flagged (maps_of f) ps)
    unfolding maps4
    collecting_end i l h =
        l.say.is
        ∙ rw (flagged_ext (among_of f i) (maps_of f) (λ c. ap (λ n. among_of f n c) (looking_none l.looking h)) ps)

-- ---- a walk that may be broken off

saying_again : (q : ℕ → Bool) (ps fs₀ fs : List ℕ) → Saying q ps fs₀ fs → Cleared (length ps) fs₀ → sets fs 0 (replicate (length ps) 0) ≡ fs₀
saying_again q ps fs₀ fs y c =
    rw y.is (sets_over fs₀ 0 (flagged q ps) (replicate (length ps) 0) (length-flagged q ps ∙ sym (length-replicate {A = ℕ} (length ps) 0))) ∙ sym c.is

module _ (f : Format4) (ps fs₀ fs : List ℕ) (i : ℕ) (c : Cleared (length ps) fs₀) (l : Collecting f ps fs₀ fs i) where
  walked_again : sets fs 0 (replicate (length ps) 0) ≡ fs₀
  walked_again = saying_again (among_of f i) ps fs₀ fs l.say c

  pub walked_stop : (g : Segment4) (b : Bool) → i < f.place.segs → IsSegment f i g → b ≡ stops_at g.subtable.now g.index → b ≡ true → Walked true (maps_of f) ps fs₀ fs
  walked_stop g b h r d e = record { all = λ t. collecting_stop f ps fs₀ fs i g b l h r d e; again = walked_again }

  pub walked_end : f.place.segs ≤ i → Walked true (maps_of f) ps fs₀ fs
  walked_end h = record { all = λ t. collecting_end f ps fs₀ fs i l h; again = walked_again }

  pub walked_off : Walked false (maps_of f) ps fs₀ fs
  walked_off = record { all = λ t. absurd (false-true t); again = walked_again }

module _ (b : Bool) (p : ℕ → Bool) (ps fs₀ fs : List ℕ) (w : Walked b p ps fs₀ fs) where
  pub walked_all : b ≡ true → fs ≡ sets fs₀ 0 (flagged p ps)
  walked_all e = w.all e

  pub walked_anew : (fs₁ fs₂ : List ℕ) → fs₁ ≡ sets fs 0 (replicate (length ps) 0) → fs₂ ≡ sets fs₁ 0 (flagged p ps) → fs₂ ≡ sets fs₀ 0 (flagged p ps)
  walked_anew fs₁ fs₂ e d = d ∙ ap (λ (x : List ℕ). sets x 0 (flagged p ps)) (e ∙ w.again)

  pub walked_clear : (fs₁ : List ℕ) → fs₁ ≡ sets fs 0 (replicate (length ps) 0) → Cleared (length ps) fs₁
  walked_clear fs₁ e = cleared (length ps) fs fs₁ e

pub ruleset walked = (walked_stop, walked_end, walked_off, walked_all, walked_anew)

pub ruleset collecting = (collecting_start, collecting_on, collecting_stop, collecting_end)
