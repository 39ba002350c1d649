-- Which bytes give a kind, and what a kind tells of the bytes.
use Prim.Native.Nat.{ℕ, ◌+◌, ◌*◌, ◌%◌, ◌≤◌}
use mathlib.Core.Path.{◌≡◌, refl, subst}
use mathlib.Core.List.{List}
use mathlib.Core.Bool.{true}
use native.Mathlib.Omega.{arith}
use lib.ListN.{length}
use lib.Dec.{leb, eqb}
use borrow.Author.Tests.{le-leb, leb-true, eq-eqb, eqb-true}
use Rattle.laws.proofs.ChoiceLaws.{both_left, both_right, not-true, by_pick}
use Rattle.number.specs.BigEndian.{Bytes}
use Rattle.number.proofs.BigEndianLaws.{be_lt}
use Rattle.source.specs.declared.Kind.{Kind}
use Rattle.source.specs.declared.Kind.TheVariants.{Format4, Format12, Format14, Unreadable}
use Rattle.source.specs.Kind.{format, length4, language4, seg_count_x2, segments4, readable4, length12, language12, groups12, readable12, length14, records14, readable14, kind_at}
use Rattle.source.specs.Room.{Room4, Room12}

-- ---- the tests as facts

pub record Readable4 (xs : List ℕ) (at l s len : ℕ) : Type 0 where
  pub language : l ≡ language4 xs at
  pub segments : s ≡ segments4 xs at
  pub long : len ≡ length4 xs at
  pub four : format xs at ≡ 4
  pub even : seg_count_x2 xs at % 2 ≡ 0
  pub some : 1 ≤ s
  pub room : 16 + 8 * s ≤ len
  pub fits : at + len ≤ length xs

pub record Readable12 (xs : List ℕ) (at l g len : ℕ) : Type 0 where
  pub language : l ≡ language12 xs at
  pub groups : g ≡ groups12 xs at
  pub long : len ≡ length12 xs at
  pub twelve : format xs at ≡ 12
  pub room : 16 + 12 * g ≤ len
  pub fits : at + len ≤ length xs

pub record Readable14 (xs : List ℕ) (at n len : ℕ) : Type 0 where
  pub records : n ≡ records14 xs at
  pub long : len ≡ length14 xs at
  pub fourteen : format xs at ≡ 14
  pub few : n ≤ 512
  pub room : 10 + 11 * n ≤ len
  pub fits : at + len ≤ length xs

module _ (xs : List ℕ) (at : ℕ) where
  abbrev here4 : Type 0
  here4 = Readable4 xs at (language4 xs at) (segments4 xs at) (length4 xs at)

  abbrev here12 : Type 0
  here12 = Readable12 xs at (language12 xs at) (groups12 xs at) (length12 xs at)

  abbrev here14 : Type 0
  here14 = Readable14 xs at (records14 xs at) (length14 xs at)

  facts4 : readable4 xs at ≡ true → here4
  facts4 e =
      let e₁ = both_right (eqb (format xs at) 4) _ e in
      let e₂ = both_right (eqb (seg_count_x2 xs at % 2) 0) _ e₁ in
      let e₃ = both_right (leb 1 (segments4 xs at)) _ e₂ in
      record {
        language = refl;
        segments = refl;
        long = refl;
        four = eqb-true _ _ (both_left _ _ e);
        even = eqb-true _ _ (both_left _ _ e₁);
        some = leb-true _ _ (both_left _ _ e₂);
        room = leb-true _ _ (both_left _ _ e₃);
        fits = leb-true _ _ (both_right (leb (16 + 8 * segments4 xs at) (length4 xs at)) _ e₃);
      }

  facts12 : readable12 xs at ≡ true → here12
  facts12 e =
      let e₁ = both_right (eqb (format xs at) 12) _ e in
      record {
        language = refl;
        groups = refl;
        long = refl;
        twelve = eqb-true _ _ (both_left _ _ e);
        room = leb-true _ _ (both_left _ _ e₁);
        fits = leb-true _ _ (both_right (leb (16 + 12 * groups12 xs at) (length12 xs at)) _ e₁);
      }

  facts14 : readable14 xs at ≡ true → here14
  facts14 e =
      let e₁ = both_right (eqb (format xs at) 14) _ e in
      let e₂ = both_right (leb (records14 xs at) 512) _ e₁ in
      record {
        records = refl;
        long = refl;
        fourteen = eqb-true _ _ (both_left _ _ e);
        few = leb-true _ _ (both_left _ _ e₁);
        room = leb-true _ _ (both_left _ _ e₂);
        fits = leb-true _ _ (both_right (leb (10 + 11 * records14 xs at) (length14 xs at)) _ e₂);
      }

  -- ---- the facts give the kind

  pub gives4 : {l s len : ℕ} → Readable4 xs at l s len → Format4 l s len ≡ kind_at xs at
  unfolding kind_at
  gives4 g =
      rw (
        ← g.language,
        ← g.segments,
        ← g.long,
        eq-eqb _ _ g.four,
        eq-eqb _ _ g.even,
        le-leb _ _ g.some,
        le-leb _ _ g.room,
        le-leb _ _ g.fits,
      )

  pub gives12 : {l n len : ℕ} → Readable12 xs at l n len → Format12 l n len ≡ kind_at xs at
  unfolding kind_at
  gives12 g =
      rw (
        not-true (readable4 xs at) (λ e. let f = facts4 e in omega arith),
        ← g.language,
        ← g.groups,
        ← g.long,
        eq-eqb _ _ g.twelve,
        le-leb _ _ g.room,
        le-leb _ _ g.fits,
      )

  pub gives14 : {n len : ℕ} → Readable14 xs at n len → Format14 n len ≡ kind_at xs at
  unfolding kind_at
  gives14 g =
      rw (
        not-true (readable4 xs at) (λ e. let f = facts4 e in omega arith),
        not-true (readable12 xs at) (λ e. let f = facts12 e in omega arith),
        ← g.records,
        ← g.long,
        eq-eqb _ _ g.fourteen,
        le-leb _ _ g.few,
        le-leb _ _ g.room,
        le-leb _ _ g.fits,
      )

  pub unreadable : (here4 → ⊥) → (here12 → ⊥) → (here14 → ⊥) → Unreadable ≡ kind_at xs at
  unfolding kind_at
  unreadable f g h =
      rw (
        not-true (readable4 xs at) (λ e. f (facts4 e)),
        not-true (readable12 xs at) (λ e. g (facts12 e)),
        not-true (readable14 xs at) (λ e. h (facts14 e)),
      )

  -- ---- the kind tells the facts

  abbrev Told : Kind → Type 0
  Told (Format4 l s len) = Readable4 xs at l s len
  Told (Format12 l n len) = Readable12 xs at l n len
  Told (Format14 n len) = Readable14 xs at n len
  Told Unreadable = Unit {0}

  told : Told (kind_at xs at)
  unfolding kind_at
  told =
      by_pick Told (readable4 xs at) _ _ facts4
      (λ e. by_pick Told (readable12 xs at) _ _ facts12 (λ f. by_pick Told (readable14 xs at) _ _ facts14 (λ g. tt)))

  pub tells4 : {l s len : ℕ} → kind_at xs at ≡ Format4 l s len → Readable4 xs at l s len
  tells4 e = subst Told e told

  pub tells12 : {l n len : ℕ} → kind_at xs at ≡ Format12 l n len → Readable12 xs at l n len
  tells12 e = subst Told e told

  pub tells14 : {n len : ℕ} → kind_at xs at ≡ Format14 n len → Readable14 xs at n len
  tells14 e = subst Told e told

  -- ---- the kind gives the room

  pub room4 : {l s len : ℕ} → Bytes xs → kind_at xs at ≡ Format4 l s len → Room4 xs (record { at = at; segs = s; len = len })
  room4 b e =
      let g = tells4 e in
      record { room = g.room; fits = g.fits; small = rw g.long (be_lt 2 xs (at + 2) b) }

  pub room12 : {l n len : ℕ} → kind_at xs at ≡ Format12 l n len → Room12 xs at n
  room12 e =
      let g = tells12 e in
      record { fits = omega arith }

-- ---- a kind's length in bytes; 0 where nothing is readable

abbrev pub length_of : Kind → ℕ
length_of (Format4 language segments len) = len
length_of (Format12 language groups len) = len
length_of (Format14 records len) = len
length_of Unreadable = 0
