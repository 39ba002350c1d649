-- The walk that writes: the loop's invariant, and a rule for each way on.
use Prim.Native.Nat.{ℕ, ◌+◌, ◌-◌, ◌≤◌, ◌<◌}
use mathlib.Core.Path.{◌≡◌, refl, sym, ◌∙◌, ap, ap₂, subst}
use mathlib.Core.List.{List, [], ◌∷◌, ◌++◌}
use native.Mathlib.Omega.{arith}
use lib.ListN.{length, get_or, drop, length-append}
use lib.Seq.{length-sets}
use Rattle.laws.specs.Lists.{pairs}
use Rattle.lists_runs.specs.Runs.{RunEndsAt}
use Rattle.number.specs.Row.{encs}
use Rattle.number.proofs.BigEndianLaws.{length-put}
use Rattle.format4_cutting.specs.declared.Segment.{Segment}
use Rattle.format4_cutting.specs.declared.RangeState.{RangeState}
use Rattle.format4_cutting.specs.declared.Absorbed.{Absorbed}
use Rattle.format4_cutting.specs.declared.Finished.{Finished}
use Rattle.format4_cutting.specs.Steps.{idle, grown, step, finish, to_list, cut_from}
use Rattle.format4_cutting.proofs.StepsLaws.{entries-append, walk_step, walk_end}
use Rattle.format4.specs.Size.{Columns16}
use Rattle.format4.specs.Walk.{Fed}
use Rattle.format4_cutting.specs.Cutting.{segments, closing, points}
use Rattle.format4_cutting.proofs.WalkLaws.{walk_cuts}
use Rattle.format4_cutting.proofs.RunLaws.{run_turn}
use Rattle.format4_columns.specs.declared.RangeWriter.{RangeWriter}
use Rattle.format4_columns.specs.Places.{part_of, next_of, put_one, put_all, moved_by, SegmentsRoom, columns_at, Apart}
use Rattle.format4_columns.proofs.PlacesLaws.{put_columns}

-- ---- room

fed_front : (a b : List Segment) (k : ℕ) → Fed k (a ++ b) → Fed k a
fed_front [] b k f = tt
fed_front (x ∷ a) b k f = (f.0, f.1, fed_front a b (k - points x) f.2)

pub room_front : {w : RangeWriter} {k l : ℕ} (a b : List Segment) → SegmentsRoom w (a ++ b) k l → SegmentsRoom w a k l
room_front {w} {k} a b r =
    let p = r.places in
    let e = length-append a b in
    let f = entries-append a b in
    record { places = omega arith; fed = fed_front a b (k - w.next) r.fed }

pub room_next : {w : RangeWriter} {k l : ℕ} (x : Segment) (xs : List Segment) → SegmentsRoom w (x ∷ xs) k l → SegmentsRoom (next_of w x) xs k l
room_next {w} {k} x xs r =
    let p = r.places in
    let q = r.fed.1 in
    let left : k - w.next - points x ≡ k - (w.next + points x) = omega arith in
    record { places = omega arith; fed = subst (λ (n : ℕ). Fed n xs) left r.fed.2 }

room_back : {w : RangeWriter} {k l : ℕ} (a b : List Segment) → SegmentsRoom w (a ++ b) k l → SegmentsRoom (moved_by w a) b k l
unfolding moved_by
room_back [] b r = r
room_back {w = w} {k = k} {l = l} (x ∷ a) b r = room_back {w = next_of w x} a b (room_next x (a ++ b) r)

-- ---- stores

put_all-append : (gs o : List ℕ) (w : RangeWriter) (a b : List Segment) → put_all gs o w (a ++ b) ≡ put_all gs (put_all gs o w a) (moved_by w a) b
unfolding put_all moved_by
put_all-append gs o w [] b = refl
put_all-append gs o w (x ∷ a) b = put_all-append gs (put_one gs o w x) (next_of w x) a b

length-put_one : (gs o : List ℕ) (w : RangeWriter) (x : Segment) → length (put_one gs o w x) ≡ length o
length-put_one gs o w x = length-sets _ w.array (encs 2 (part_of gs w x)) ∙ simp length-put

length-put_all : (gs o : List ℕ) (w : RangeWriter) (a : List Segment) → length (put_all gs o w a) ≡ length o
unfolding put_all
length-put_all gs o w [] = refl
length-put_all gs o w (x ∷ a) = length-put_all gs (put_one gs o w x) (next_of w x) a ∙ length-put_one gs o w x

-- ---- what is left to write, and room for it

pub record Left (gs o : List ℕ) (w : RangeWriter) (ss : List Segment) (l : ℕ) (whole : List ℕ) : Type 0 where
  pub room : SegmentsRoom w ss (length gs) l
  pub long : length o ≡ l
  pub goes : put_all gs o w ss ≡ whole

left_room : {gs o : List ℕ} {w : RangeWriter} {l : ℕ} {whole : List ℕ} (a b : List Segment) → Left gs o w (a ++ b) l whole → SegmentsRoom w a (length gs) (length o)
left_room {gs} {o} {w} {l} a b r = rw r.long (room_front a b r.room)

left_next : {gs o : List ℕ} {w : RangeWriter} {l : ℕ} {whole p : List ℕ} {v : RangeWriter} (a b : List Segment)
    → Left gs o w (a ++ b) l whole → v ≡ moved_by w a → p ≡ put_all gs o w a → Left gs p v b l whole
left_next {gs} {o} {w} {l} {whole} {p} {v} a b r e f = record {
  room = rw e (room_back a b r.room);
  long = ap length f ∙ length-put_all gs o w a ∙ r.long;
  goes = ap₂ (λ (q : List ℕ) (u : RangeWriter). put_all gs q u b) f e ∙ sym (put_all-append gs o w a b) ∙ r.goes;
}

-- ---- the walk

-- i pairs are walked; what is left, written from here, gives all columns
pub record Writing (cs gs o₀ : List ℕ) (w₀ : RangeWriter) (s : RangeState) (o : List ℕ) (w : RangeWriter) (i : ℕ) : Type 0 where
  pub within : i ≤ length cs
  pub left : Left gs o w (cut_from s (pairs (drop i cs) (drop i gs))) (length o₀) (columns_at gs o₀ w₀ 0 (segments (pairs cs gs)))

pub writing_start : (cs gs o : List ℕ) (w : RangeWriter) (s : RangeState) → s ≡ idle → Apart w (length (segments (pairs cs gs))) 0
    → SegmentsRoom w (segments (pairs cs gs)) (length gs) (length o) → Writing cs gs o w s o w 0
writing_start cs gs o w s e r m = rw e (record {
  within = omega arith;
  left = rw (← walk_cuts (pairs cs gs)) (record { room = m; long = refl; goes = put_columns gs (segments (pairs cs gs)) o w 0 r m.fed });
})

module _ (cs gs o₀ : List ℕ) (w₀ : RangeWriter) (s : RangeState) (o : List ℕ) (w : RangeWriter) (i : ℕ) (l : Writing cs gs o₀ w₀ s o w i) where
  abbrev whole : List ℕ
  whole = columns_at gs o₀ w₀ 0 (segments (pairs cs gs))

  module _ (a : Absorbed) (k : Columns16 cs gs) (h : i < length cs) (e : a ≡ step s (get_or cs i 0) (get_or gs i 0)) where
    pub writing_room : SegmentsRoom w (to_list a.out) (length gs) (length o)
    writing_room = left_room (to_list a.out) _ (rw (walk_step s cs gs i h (omega (arith, k.even)), ← e) at l.left)

    -- a run: its first pair is absorbed, and the state grows to its last
    pub writing_on : (p : List ℕ) (v : RangeWriter) → (v ≡ moved_by w (to_list a.out)) × (p ≡ put_all gs o w (to_list a.out))
        → (j : ℕ) (t : RangeState) → RunEndsAt cs gs i j → t ≡ grown a.state (get_or cs (j - 1) 0) (get_or gs (j - 1) 0) → Writing cs gs o₀ w₀ t p v j
    writing_on p v u j t r g = record {
      within = r.within;
      left = left_next (to_list a.out) _ (rw (run_turn cs gs s i a j t k.even e r g) at l.left) u.0 u.1;
    }

  module _ (f : Finished) (h : length cs ≤ i) (e : f ≡ finish s) where
    end : Left gs o w (to_list f.out ++ closing f.close) (length o₀) whole
    end = rw (walk_end s cs gs i h, ← e) at l.left

    pub ending_room : SegmentsRoom w (to_list f.out) (length gs) (length o)
    ending_room = left_room (to_list f.out) _ end

    module _ (p : List ℕ) (v : RangeWriter) (t : (v ≡ moved_by w (to_list f.out)) × (p ≡ put_all gs o w (to_list f.out))) where
      ended : Left gs p v (closing f.close) (length o₀) whole
      ended = left_next (to_list f.out) (closing f.close) end t.0 t.1

      pub closing_room : SegmentsRoom v (closing f.close) (length gs) (length p)
      closing_room = rw ended.long ended.room

      pub ended_long : length p ≡ length o₀
      ended_long = ended.long

      pub ended_is : put_all gs p v (closing f.close) ≡ whole
      ended_is = ended.goes
