-- No mapping is lost and none is won: read back from its bytes, the new non-default table gives a code point the new numbers of exactly those
-- glyphs that the source's table gave it and that stay, in order; if the code point is kept, of all of them.
use Prim.Native.Nat.{ℕ, ◌+◌, ◌*◌, ◌^◌, ◌<◌}
use mathlib.Core.Path.{◌≡◌, refl, sym, ap, ap₂, ◌∙◌}
use mathlib.Core.List.{List, [], ◌∷◌, map}
use mathlib.Core.Bool.{Bool, true, false}
use native.Mathlib.Omega.{arith}
use borrow.Author.Tests.{eqb-true, eq-eqb}
use lib.Dec.{eqb}
use lib.ListN.{length, length-append}
use Rattle.laws.specs.Choice.{either}
use Rattle.laws.specs.Lists.{Pair}
use Rattle.laws.specs.Linked.{Each}
use Rattle.laws.specs.Select.{each, select, any_of}
use Rattle.laws.proofs.ChoiceLaws.{by_test}
use Rattle.laws.proofs.LengthLaws.{length-each, length-select}
use Rattle.laws.proofs.StandsLaws.{Stands}
use Rattle.lists_marks.specs.Marks.{holds}
use Rattle.number.specs.BigEndian.{be, enc, Bytes}
use Rattle.number.proofs.BigEndianLaws.{be_lt, be-enc_fits, length-enc}
use Rattle.number.proofs.StandsLaws.{be_stands}
use Rattle.number.specs.Limits.{absent}
use Rattle.format14_uvs.specs.Tables.{uvs_table}
use Rattle.format14_uvs.proofs.ReadLaws.{each_row, each_select, stands_front, stands_back, stands_whole, table_back}
use Rattle.format14_uvs.specs.NonDefault.{mapping, mapping_at, mappings, keeps_mapping, kept_mappings, mapping_bytes, new_non_default, missing, bad_mapping}
use Rattle.format14.specs.Gives.{glyphs_for, staying_glyphs, new_glyph, renumbered, Glyphs}
use Rattle.format14_mapping.proofs.MappingLaws.{mapping_size, missing-absent}

-- ---- mappings read back from their bytes

pub none_read : (p : ℕ) → mappings [] p ≡ []
unfolding each be
none_read p = refl

-- a code point of three bytes
abbrev Fits : Pair → Type 0
Fits m = m.0 < 256 ^ 3

module _ (glyphs : List ℕ) (small : Glyphs glyphs) where
  read_mapping : (ys : List ℕ) (at : ℕ) (m : Pair) → Fits m → Stands ys at (mapping_bytes glyphs m) → mapping ys at ≡ renumbered glyphs m
  read_mapping ys at m f st =
      let c = enc 3 m.0 in
      let g = enc 2 (new_glyph glyphs m.1) in
      let three = length-enc 3 m.0 in
      let two = length-enc 2 (new_glyph glyphs m.1) in
      ap₂ (λ (a b : ℕ). (a, b))
      (be_stands (stands_front c g st) 3 0 at (omega arith) (omega (arith, three)) ∙ be-enc_fits 3 m.0 f)
      (be_stands (stands_back c g (at + 3) (omega (arith, three)) st) 2 0 (at + 3) (omega arith) (omega (arith, two)) ∙ be-enc_fits 2 (new_glyph glyphs m.1) (small m.1))

  -- a table that stands in other bytes, and by itself
  back : (ys : List ℕ) (q : ℕ) (ms : List Pair) → Each Fits ms → length ms < 256 ^ 4 → Stands ys q (uvs_table (mapping_bytes glyphs) ms) → 0 < length (uvs_table (mapping_bytes glyphs) ms)
      → mappings ys q ≡ map (renumbered glyphs) ms
  back = table_back (mapping_bytes glyphs) 5 (mapping_size glyphs) mapping (renumbered glyphs) Fits read_mapping

  own_back : (ms : List Pair) → Each Fits ms → length ms < 256 ^ 4 → mappings (uvs_table (mapping_bytes glyphs) ms) 0 ≡ map (renumbered glyphs) ms
  unfolding uvs_table
  own_back [] f l = none_read 0
  own_back (m ∷ ms) f l = back (uvs_table (mapping_bytes glyphs) (m ∷ ms)) 0 (m ∷ ms) f l (stands_whole (uvs_table (mapping_bytes glyphs) (m ∷ ms))) (rw (length-append, length-enc) (omega arith))

-- ---- which glyphs a code point is given

module _ (kept requested glyphs : List ℕ) (c : ℕ) where
  abbrev Gives : List Pair → Type 0
  Gives ms = glyphs_for (map (renumbered glyphs) (select (keeps_mapping kept requested) ms)) c ≡ map (new_glyph glyphs) (staying_glyphs kept requested c (glyphs_for ms c))

  gives : (ms : List Pair) → Gives ms
  unfolding select keeps_mapping
  gives [] = refl
  gives (m ∷ ms) =
      let ih = gives ms in
      by_test (Gives (m ∷ ms)) (eqb m.0 c)
      (λ d.
      let same = eqb-true m.0 c d in
      by_test (Gives (m ∷ ms)) (either (holds kept c) (holds requested m.1))
      (λ e. rw (same, e, eq-eqb c c refl, e) (ap (λ (l : List ℕ). new_glyph glyphs m.1 ∷ l) ih))
      (λ e. rw (same, e, eq-eqb c c refl, e) ih))
      (λ d. by_test (Gives (m ∷ ms)) (either (holds kept m.0) (holds requested m.1))
      (λ e. rw (e, d) ih)
      (λ e. rw (e, d) ih))

pub all_stay : (kept requested : List ℕ) (c : ℕ) → holds kept c ≡ true → (gs : List ℕ) → staying_glyphs kept requested c gs ≡ gs
unfolding select
all_stay kept requested c e [] = refl
all_stay kept requested c e (g ∷ gs) = rw e (ap (λ (l : List ℕ). g ∷ l) (all_stay kept requested c e gs))

any_ext : {A B : Type 0} (p : A → Bool) (q : B → Bool) (f : B → A) → ((x : B) → p (f x) ≡ q x) → (xs : List B) → any_of p (map f xs) ≡ any_of q xs
unfolding any_of
any_ext p q f h [] = refl
any_ext p q f h (x ∷ xs) = rw (h x, any_ext p q f h xs)

-- ---- the new table

module _ (xs : List ℕ) (p : ℕ) (kept glyphs requested : List ℕ) (bytes : Bytes xs) (small : Glyphs glyphs) where
  abbrev new : List ℕ
  new = new_non_default xs p kept glyphs requested

  few : length (kept_mappings xs p kept requested) < 256 ^ 4
  few = omega (arith, length-select (keeps_mapping kept requested) (mappings xs p), length-each (mapping_at xs p) (be 4 xs p) 0, be_lt 4 xs p bytes)

  fit : Each Fits (kept_mappings xs p kept requested)
  fit = each_select Fits (keeps_mapping kept requested) (mappings xs p) (each_row Fits (mapping_at xs p) (λ i. be_lt 3 xs (p + 4 + 5 * i) bytes) (be 4 xs p) 0)

  -- read back from its bytes, wherever they stand, the new table has the source's mappings that stay, in order, with their new glyphs
  pub stands_mappings : (ys : List ℕ) (q : ℕ) → Stands ys q new → 0 < length new → mappings ys q ≡ map (renumbered glyphs) (kept_mappings xs p kept requested)
  unfolding new_non_default
  stands_mappings ys q st z = back glyphs small ys q (kept_mappings xs p kept requested) fit few st z

  pub new-mappings : mappings new 0 ≡ map (renumbered glyphs) (kept_mappings xs p kept requested)
  unfolding new_non_default
  new-mappings = own_back glyphs small (kept_mappings xs p kept requested) fit few

  -- each code point is given the new numbers of those glyphs that the source's table gave it and that stay, in order
  pub new_gives : (c : ℕ) → glyphs_for (mappings new 0) c ≡ map (new_glyph glyphs) (staying_glyphs kept requested c (glyphs_for (mappings xs p) c))
  new_gives c = rw new-mappings (gives kept requested glyphs c (mappings xs p))

  -- a kept one those of all of them: none is lost, none is won
  pub kept_gives : (c : ℕ) → holds kept c ≡ true → glyphs_for (mappings new 0) c ≡ map (new_glyph glyphs) (glyphs_for (mappings xs p) c)
  kept_gives c e = new_gives c ∙ ap (λ (l : List ℕ). map (new_glyph glyphs) l) (all_stay kept requested c e (glyphs_for (mappings xs p) c))

  -- where refusal 8 does not hold, none of its glyphs is absent
  pub new_present : bad_mapping xs p kept glyphs requested ≡ false → any_of (λ m. eqb m.1 absent) (mappings new 0) ≡ false
  unfolding bad_mapping
  new_present h = rw new-mappings (any_ext (λ m. eqb m.1 absent) (λ m. missing glyphs m.1) (renumbered glyphs) (λ m. sym (missing-absent glyphs m.1)) (kept_mappings xs p kept requested) ∙ h)
