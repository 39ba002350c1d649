-- The walk from the last segment to the first tells the whole.
use Prim.Native.Nat.{ℕ, ◌+◌, ◌-◌, ◌%◌, ◌<◌, ◌≤◌}
use mathlib.Core.Path.{◌≡◌, refl, sym, ap, ◌∙◌}
use mathlib.Core.List.{List}
use mathlib.Core.Bool.{Bool, true, false}
use mathlib.Core.Logic.{inl, inr}
use native.Mathlib.Omega.{arith}
use lib.ListN.{length, get_or, replicate, length-replicate, get_or-replicate}
use lib.Seq.{sets, length-sets, ext_get_or}
use Rattle.laws.specs.Choice.{pick}
use Rattle.laws.specs.Search.{first}
use Rattle.laws.proofs.ChoiceLaws.{by_leb}
use Rattle.laws.proofs.SetsLaws.{get_or-sets_in, get_or-sets_other}
use Rattle.lists_marks.specs.Marks.{flag_of, flagged, Flags, Cleared}
use Rattle.lists_marks.proofs.MarksLaws.{length-flagged, flag_at}
use Rattle.format4_mapped.specs.Mapped4.{last_says, maps4}
use Rattle.format4_segments.specs.declared.Format4.{Format4}
use Rattle.format4_segments.specs.declared.Segment4.{Segment4}
use Rattle.format4_segments.specs.Asked.{IsSegment, stops_at, holds_of, says_of, among_of, maps_of}
use Rattle.format4_collect.specs.Downward.{word, decided, NotedBlocks, DecidedBy}
use Rattle.format4_collect.specs.Walks.{Told, Telling, Settled}
use Rattle.format4_segments.proofs.SegmentLaws.{among_on}
use Rattle.format4_collect.proofs.DownwardLaws.{decided-word, word_flag}

told_on : (w l l' p v : Bool) (f f' : ℕ) → Told w l f → f' ≡ pick p (decided v f) f → pick p v l' ≡ l → Told w l' f'
unfolding decided
told_on w l l' true v f f' (inl a) q e = inr (rw a.0 at q ∙ ap word (e ∙ sym a.1))
told_on w l l' false v f f' (inl a) q e = inl (q ∙ a.0, a.1 ∙ sym e)
told_on w l l' true v f f' (inr a) q e = inr (q ∙ rw a (decided-word v w))
told_on w l l' false v f f' (inr a) q e = inr (q ∙ a)

telling_on : (whole left left' p v : ℕ → Bool) (ps fs₀ fs fs' : List ℕ) → Telling whole left ps fs₀ fs → DecidedBy p v ps fs fs'
    → ((c : ℕ) → pick (p c) (v c) (left' c) ≡ left c) → Telling whole left' ps fs₀ fs'
telling_on whole left left' p v ps fs₀ fs fs' t d e =
    record {
      same = d.same ∙ t.same;
      told = λ k h.
          let c = get_or ps k 0 in
          told_on (whole c) (left c) (left' c) (p c) (v c) (get_or fs k 0) (get_or fs' k 0) (t.told k h) (d.here k h) (e c);
      past = λ k h. d.past k h ∙ t.past k h;
    }

cleared_at : (n : ℕ) (fs : List ℕ) (k : ℕ) → Cleared n fs → n ≤ length fs → k < n → get_or fs k 0 ≡ 0
cleared_at n fs k c l h =
    let m = length-replicate {A = ℕ} n 0 in
    let z : 0 + k ≡ k = omega arith in
    ap (λ (x : List ℕ). get_or x k 0) c.is ∙ rw z at (get_or-sets_in fs 0 (replicate n 0) k (rw m h) (rw m (omega arith))) ∙ get_or-replicate n k 0 0 h

module _ (f : Format4) where
  -- the segments from i on are walked
  pub record Downing (noted ps fs₀ fs : List ℕ) (i : ℕ) : Type 0 where
    pub within : i ≤ f.place.segs
    pub telling : Telling (maps_of f) (among_of f i) ps fs₀ fs
    pub notes : NotedBlocks noted fs

  pub downing_start : (noted ps fs₀ : List ℕ) (i : ℕ) → (i ≡ first (stops_at f) f.place.segs 0) × (i ≤ f.place.segs) → Cleared (length ps) fs₀ → Flags ps fs₀ → NotedBlocks noted fs₀
      → Downing noted ps fs₀ fs₀ i
  unfolding maps4
  downing_start noted ps fs₀ i e c k n =
      record {
        within = e.1;
        telling = record { same = refl; told = λ j h. inl (cleared_at (length ps) fs₀ j c k.beside h, rw e.0); past = λ j h. refl };
        notes = n;
      }

  pub downing_on : (noted noted' ps fs₀ fs fs' : List ℕ) (i : ℕ) (g : Segment4) → Downing noted ps fs₀ fs i → 0 < i → IsSegment f (i - 1) g
      → DecidedBy (holds_of g) (says_of g) ps fs fs' → NotedBlocks noted' fs' → Downing noted' ps fs₀ fs' (i - 1)
  downing_on noted noted' ps fs₀ fs fs' i g d h r b n =
      let m : i - 1 + 1 ≡ i = omega arith in
      record {
        within = omega (arith, d.within);
        telling = telling_on (maps_of f) (among_of f i) (among_of f (i - 1)) (holds_of g) (says_of g) ps fs₀ fs fs' d.telling b
            (λ c. rw m at (among_on f (i - 1) g r c));
        notes = n;
      }

  pub downing_end : (noted ps fs₀ fs : List ℕ) (i : ℕ) → Downing noted ps fs₀ fs i → i ≤ 0 → Telling (maps_of f) (among_of f 0) ps fs₀ fs
  downing_end noted ps fs₀ fs i d h =
      let e : i ≡ 0 = omega arith in
      rw e at d.telling

  pub flags_down : (noted ps fs₀ fs : List ℕ) (i : ℕ) → Flags ps fs₀ → Downing noted ps fs₀ fs i → Flags ps fs
  flags_down noted ps fs₀ fs i k d = record { rising = k.rising; beside = omega (arith, k.beside, d.telling.same) }

  -- ---- the answers

  pub settled_all : (ps fs₀ fs fs' : List ℕ) → Telling (maps_of f) (among_of f 0) ps fs₀ fs → Settled (length ps) fs fs' → Flags ps fs₀
      → fs' ≡ sets fs₀ 0 (flagged (maps_of f) ps)
  unfolding last_says
  settled_all ps fs₀ fs fs' t d k =
      ext_get_or 0 fs' (sets fs₀ 0 (flagged (maps_of f) ps)) (d.same ∙ t.same ∙ sym (length-sets fs₀ 0 (flagged (maps_of f) ps))) one
    where
      answer : (w : Bool) (u : ℕ) → Told w false u → u % 2 ≡ flag_of w
      answer w u (inl a) = rw (a.0, a.1)
      answer w u (inr a) = rw a (word_flag w)

      one : (j : ℕ) → j < length fs' → get_or fs' j 0 ≡ get_or (sets fs₀ 0 (flagged (maps_of f) ps)) j 0
      one j h =
          by_leb _ (length ps) j
          (λ (l : length ps ≤ j).
          d.past j l ∙ t.past j l
          ∙ sym (get_or-sets_other fs₀ 0 (flagged (maps_of f) ps) j (inr (rw (length-flagged (maps_of f) ps) (omega arith)))))
          (λ (l : j < length ps).
          d.here j l ∙ answer (maps_of f (get_or ps j 0)) (get_or fs j 0) (t.told j l) ∙ sym (flag_at (maps_of f) ps fs₀ j l k.beside))

pub ruleset downing = (downing_start, downing_on, downing_end, settled_all)
