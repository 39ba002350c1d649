-- What the kind of a subtable says of the points it maps, and the listed pairs as two columns.
use Prim.Native.Nat.{ℕ, suc, ◌<◌, ◌≤◌}
use mathlib.Core.Path.{◌≡◌, refl, sym, ap, ◌∙◌}
use mathlib.Core.List.{List, [], ◌∷◌}
use mathlib.Core.Bool.{Bool, true, false}
use native.Mathlib.Omega.{arith}
use lib.Dec.{eqb}
use lib.ListN.{length, take, replicate}
use lib.Seq.{sets, length-sets, length-take-le}
use Rattle.laws.specs.Lists.{Pair, pairs, keep}
use Rattle.laws.proofs.PairsLaws.{firsts_pairs, seconds_pairs, keep-pairs}
use Rattle.laws.proofs.SetsLaws.{take-sets}
use Rattle.laws.specs.Choice.{pick}
use Rattle.number.specs.BigEndian.{Bytes}
use Rattle.source.specs.declared.Kind.{Kind}
use Rattle.source.specs.declared.Kind.TheVariants.{Format4, Format12, Format14, Unreadable}
use Rattle.source_header.specs.declared.EncodingRecord.{EncodingRecord}
use Rattle.source_header.specs.Header.{record_of}
use Rattle.source.specs.Kind.{kind_at}
use Rattle.source.specs.Room.{Room4, Room12}
use Rattle.source_records.specs.Records.{leads_to}
use Rattle.source.proofs.KindLaws.{room4, room12}
use Rattle.lists_marks.specs.Marks.{flagged, kept, front_of, Flags, CopyRoom}
use Rattle.lists_marks.proofs.MarksLaws.{flagged_none, kept_sets}
use Rattle.lists_marks.proofs.LeadingLaws.{kept_front}
use Rattle.format4_mapped.specs.Mapped4.{maps4}
use Rattle.format12_mapped.specs.Mapped12.{maps12}
use Rattle.plan_listing.specs.Listing.{maps_as, maps, listed, code_column, glyph_column, KindFlagged, PointsFlagged, ColumnsWithRoom, FrontOfColumns}

-- ---- by kind

module _ (kind : Kind) (xs : List ℕ) (at n : ℕ) (ps fs : List ℕ) (a : KindFlagged kind xs at n ps fs) where
  pub asked4 : {l s len : ℕ} → Bytes xs → kind ≡ Format4 l s len → Room4 xs (record { at = at; segs = s; len = len }) × Flags ps fs
  asked4 b e = (room4 xs at b (sym a.found ∙ e), a.flagged)

  pub asked12 : {l g len : ℕ} → kind ≡ Format12 l g len → Room12 xs at g × ((n < 65536) × Flags ps fs)
  asked12 e = (room12 xs at (sym a.found ∙ e), (a.glyphs, a.flagged))

module _ (kind : Kind) (xs : List ℕ) (at n : ℕ) (ps fs gs : List ℕ) where
  pub flags4 : (l s len : ℕ) → kind ≡ Format4 l s len → gs ≡ sets fs 0 (flagged (maps4 xs at s len) ps) → gs ≡ sets fs 0 (flagged (maps_as kind xs at n) ps)
  flags4 l s len e h = rw e h

  pub flags12 : (l g len : ℕ) → kind ≡ Format12 l g len → gs ≡ sets fs 0 (flagged (maps12 xs at g n) ps) → gs ≡ sets fs 0 (flagged (maps_as kind xs at n) ps)
  flags12 l g len e h = rw e h

  pub flags14 : (m len : ℕ) → kind ≡ Format14 m len → gs ≡ sets fs 0 (replicate (length ps) 0) → gs ≡ sets fs 0 (flagged (maps_as kind xs at n) ps)
  flags14 m len e h = rw (e, flagged_none ps) h

  pub flags_none : kind ≡ Unreadable → gs ≡ sets fs 0 (replicate (length ps) 0) → gs ≡ sets fs 0 (flagged (maps_as kind xs at n) ps)
  flags_none e h = rw (e, flagged_none ps) h

-- ---- by record

module _ (xs : List ℕ) (k n : ℕ) (r : EncodingRecord) (kind : Kind) (ps fs : List ℕ) (q : r ≡ record_of xs k) (h : kind ≡ kind_at xs r.offset) where
  pub asked_record : PointsFlagged n ps fs → KindFlagged kind xs r.offset n ps fs
  asked_record b = record { found = h; glyphs = b.glyphs; flagged = b.flagged }

  pub flags_record : (gs : List ℕ) → gs ≡ sets fs 0 (flagged (maps_as kind xs r.offset n) ps) → gs ≡ sets fs 0 (flagged (maps xs n k) ps)
  unfolding maps leads_to
  flags_record gs e = rw (h, q) at e

pub ruleset by_record = (asked_record, flags_record)

pub ruleset by_kind = (flags4, flags12, flags14, flags_none)

-- ---- what is copied by flags

kept_even : (fs cs gs : List ℕ) → length cs ≡ length gs → length (kept fs cs) ≡ length (kept fs gs)
unfolding kept
kept_even [] cs gs e = refl
kept_even (f ∷ fs) [] [] e = refl
kept_even (f ∷ fs) [] (g ∷ gs) e = absurd (omega arith)
kept_even (f ∷ fs) (c ∷ cs) [] e = absurd (omega arith)
kept_even (f ∷ fs) (c ∷ cs) (g ∷ gs) e = go (eqb f 0) (kept fs cs) (kept fs gs) (kept_even fs cs gs (omega arith))
  where
    go : (t : Bool) (k l : List ℕ) → length k ≡ length l → length (pick t k (c ∷ k)) ≡ length (pick t l (g ∷ l))
    go true k l h = h
    go false k l h = ap suc h

kept_few : (fs cs : List ℕ) → length (kept fs cs) ≤ length cs
unfolding kept
kept_few [] cs = omega arith
kept_few (f ∷ fs) [] = omega arith
kept_few (f ∷ fs) (c ∷ cs) = go (eqb f 0) (kept fs cs) (kept_few fs cs)
  where
    go : (t : Bool) (k : List ℕ) → length k ≤ length cs → length (pick t k (c ∷ k)) ≤ suc (length cs)
    go true k h = omega arith
    go false k h = omega arith

module _ (fs cs gs tocs togs : List ℕ) (c : CopyRoom fs cs gs tocs togs) (n : ℕ) (e : n ≡ length (kept fs cs)) (out : List ℕ) where
  pub copied_codes : out ≡ sets tocs 0 (kept fs cs) → take n out ≡ kept fs cs
  copied_codes o = rw (o, e) (take-sets tocs (kept fs cs) (omega (arith, kept_few fs cs, c.code_room)))

  pub copied_glyphs : out ≡ sets togs 0 (kept fs gs) → take n out ≡ kept fs gs
  copied_glyphs o =
      let h = kept_even fs cs gs c.even in
      rw (o, e, h) (take-sets togs (kept fs gs) (omega (arith, h, kept_few fs cs, c.glyph_room)))

  pub codes_there : out ≡ sets tocs 0 (kept fs cs) → n ≡ length (take n out)
  codes_there o = e ∙ ap length (sym (copied_codes o))

  pub glyphs_there : out ≡ sets togs 0 (kept fs gs) → n ≡ length (take n out)
  glyphs_there o = e ∙ kept_even fs cs gs c.even ∙ ap length (sym (copied_glyphs o))

pub ruleset by_copying = (copied_codes, copied_glyphs, codes_there, glyphs_there)

-- ---- two columns

-- the columns of the pairs that are listed: ms are the flags that say what the subtable maps, fs those before
module _ (xs : List ℕ) (k n : ℕ) (cs gs fs ms tocs togs : List ℕ)
    (b : PointsFlagged n cs fs) (q : ms ≡ sets fs 0 (flagged (maps xs n k) cs)) (c : ColumnsWithRoom cs gs tocs togs) where
  abbrev L : List Pair
  L = listed xs n cs gs k

  kept_is : (vs : List ℕ) → length vs ≤ length cs → kept ms vs ≡ keep (maps xs n k) cs vs
  kept_is vs h = ap (λ (l : List ℕ). kept l vs) q ∙ kept_sets (maps xs n k) cs vs fs b.flagged.beside h

  kept-pairs : pairs (kept ms cs) (kept ms gs) ≡ L
  unfolding listed
  kept-pairs = rw (kept_is cs (omega arith), kept_is gs (omega (arith, c.even))) (keep-pairs (maps xs n k) cs gs c.even)

  sides : length (kept ms cs) ≡ length (kept ms gs)
  sides = kept_even ms cs gs c.even

  pub listed_codes : (ds : List ℕ) → ds ≡ kept ms cs → ds ≡ code_column L
  listed_codes ds e = e ∙ sym (firsts_pairs (kept ms cs) (kept ms gs) sides) ∙ ap code_column kept-pairs

  pub listed_glyphs : (hs : List ℕ) → hs ≡ kept ms gs → hs ≡ glyph_column L
  listed_glyphs hs e = e ∙ sym (seconds_pairs (kept ms cs) (kept ms gs) sides) ∙ ap glyph_column kept-pairs

  flags_there : length cs ≤ length ms
  flags_there = rw (q, length-sets fs 0 (flagged (maps xs n k) cs)) b.flagged.beside

  pub listed_room : CopyRoom ms cs gs tocs togs
  listed_room = record { even = c.even; flags = flags_there; code_room = c.codes; glyph_room = omega (arith, c.even, c.glyphs) }

  pub listed_front : (r : ℕ) → r ≡ front_of ms (length cs) → r ≤ length cs → FrontOfColumns L cs gs r
  listed_front r e w =
      let there = flags_there in
      record {
        within = w;
        is = λ h. sym kept-pairs ∙ rw (kept_front ms cs (length cs) r refl there e h, kept_front ms gs (length cs) r (sym c.even) there e h);
      }

pub ruleset by_listed = (listed_codes, listed_glyphs, listed_room, listed_front)

-- the pairs are the first of two columns
module _ (L : List Pair) (cs gs : List ℕ) (front : ℕ) (f : FrontOfColumns L cs gs front) (even : length cs ≡ length gs) where
  front_glyphs : front ≤ length gs
  front_glyphs = omega (arith, f.within, even)

  front_even : length (take front cs) ≡ length (take front gs)
  front_even = length-take-le front cs f.within ∙ sym (length-take-le front gs front_glyphs)

  pub first_codes : 0 < front → (ds : List ℕ) → ds ≡ take front cs → ds ≡ code_column L
  first_codes h ds e = e ∙ sym (firsts_pairs (take front cs) (take front gs) front_even) ∙ ap code_column (sym (f.is h))

  pub first_glyphs : 0 < front → (hs : List ℕ) → hs ≡ take front gs → hs ≡ glyph_column L
  first_glyphs h hs e = e ∙ sym (seconds_pairs (take front cs) (take front gs) front_even) ∙ ap glyph_column (sym (f.is h))

pub ruleset by_front = (first_codes, first_glyphs)
