-- A lookup in a written format 4 subtable gives the listed glyph of every listed code point, and nothing at any other but glyph 0 at 0xFFFF.
use Rattle.std.specs.Prelude.{Some, None}
use Prim.Native.Nat.{ℕ, ◌+◌, ◌≤◌, ◌<◌}
use mathlib.Core.Path.{◌≡◌, refl, sym, ap, ◌∙◌}
use mathlib.Core.List.{List, ◌++◌}
use mathlib.Core.Bool.{Bool, true, false}
use native.Mathlib.Omega.{arith}
use borrow.Author.Tests.{ne_eqb}
use lib.Dec.{eqb}
use lib.ListN.{length, get_or}
use lib.Seq.{sets}
use Rattle.laws.specs.Choice.{pick}
use Rattle.laws.specs.Lists.{Pair, pairs, Rising}
use Rattle.laws.specs.Listed.{listed_glyph}
use Rattle.laws.proofs.ChoiceLaws.{by_leb, if_lt_lem, else_lt}
use Rattle.laws.proofs.EachLaws.{each_of}
use Rattle.laws.proofs.ListedLaws.{listed_ap, listed_none, listed_nth, listed_absent}
use Rattle.laws.proofs.StandsLaws.{Stands, stands_append, stands_sets}
use Rattle.format4_cutting.specs.Cutting.{segments, glyph_array}
use Rattle.format4_cutting.proofs.CuttingLaws.{length_array}
use Rattle.source.proofs.KindLaws.{length_of}
use Rattle.source.specs.Fields.{array_entries, glyph_id_array}
use Rattle.heads_lookup.specs.Lookup.{find4, lookup4, glyph_of}
use Rattle.heads_lookup.proofs.StandsLaws.{lookup4_stands}
use Rattle.format4.specs.Format4.{format4}
use Rattle.format4_lookup.specs.CutLookup.{unlisted, Fits16, Listed16}
use Rattle.format4_lookup.proofs.FitsLaws.{segments_fit, array_fits}
use Rattle.format4_lookup.proofs.LookupLaws.{segments_find}
use Rattle.format4_lookup.specs.Lookup.{FieldsFit, found_in}
use Rattle.format4_lookup.proofs.ColumnsAtLaws.{Held, format4-numbers, entries_at, columns_held}
use Rattle.format4_lookup.proofs.ColumnsFindLaws.{columns_find}
use Rattle.format4.proofs.Format4Laws.{length-format4}
use Rattle.format4_lookup.proofs.Format4KindLaws.{format4_kind}

module _ (language : ℕ) (ps : List Pair) (l : Listed16 ps) (w : FieldsFit language ps) where
  abbrev T : List ℕ
  T = format4 language ps

  abbrev S : ℕ
  S = length (segments ps)

  find_low : (c : ℕ) → c < 65536 → found_in ps c ≡ find4 T 0 S (length T) c
  unfolding find4
  find_low c h =
      let long = length-format4 language ps in
      let short = w.short in
      let all = length_array ps in
      let low = array_fits ps l.fits in
      let count : array_entries S (length T) ≡ length (glyph_array ps) = omega arith in
      let there : (k : ℕ) → glyph_id_array T 0 S k ≡ get_or (glyph_array ps) k 0 = rw (format4-numbers language ps) (entries_at language (segments ps) (glyph_array ps) low) in
      let held : Held T S 0 0 (segments ps) = rw (format4-numbers language ps) (columns_held language (segments ps) (glyph_array ps) (segments_fit ps l.fits) (omega arith)) in
      else_lt 0xFFFF c None _ (omega arith)
      (sym (segments_find None Some c h ps l) ∙ columns_find T S (length T) (glyph_array ps) low count there c (segments ps) 0 0 (omega arith) (omega arith) held)

  -- code points above 0xFFFF are not listed
  find_high : (c : ℕ) → 65535 < c → found_in ps c ≡ find4 T 0 S (length T) c
  unfolding find4
  find_high c h =
      let others = each_of Fits16 (λ (p : Pair). p.0 ≡ c → ⊥) (λ p f e. let b = f.0 in omega arith) ps l.fits in
      if_lt_lem 0xFFFF c None _ h (rw (listed_none (unlisted None Some c) Some ps c others, ne_eqb c 65535 (λ e. omega arith)))

  -- ---- by itself

  pub format4_gives : (c : ℕ) → lookup4 T 0 c ≡ found_in ps c
  unfolding lookup4
  format4_gives c = rw (format4_kind language ps w) (sym (by_leb (found_in ps c ≡ find4 T 0 S (length T) c) c 65535 (λ h. find_low c (omega arith)) (find_high c)))

  found_glyph : (c : ℕ) → glyph_of (found_in ps c) ≡ listed_glyph ps c
  found_glyph c = listed_ap glyph_of (unlisted None Some c) Some ps c ∙ rw (zero_there (eqb c 65535))
    where
      zero_there : (t : Bool) → glyph_of (pick t (Some 0) None) ≡ 0
      zero_there true = refl
      zero_there false = refl

  -- the key fact: every number is found with its listed glyph, and with 0 where none is listed
  pub format4_finds : (c : ℕ) → glyph_of (lookup4 T 0 c) ≡ listed_glyph ps c
  format4_finds c = ap glyph_of (format4_gives c) ∙ found_glyph c

  -- ---- wherever it stands

  module _ {xs : List ℕ} {at : ℕ} (st : Stands xs at T) (c : ℕ) where
    pub format4_gives_stands : lookup4 xs at c ≡ found_in ps c
    format4_gives_stands = lookup4_stands st (omega (arith, length-format4 language ps)) (ap length_of (format4_kind language ps w)) c ∙ format4_gives c

    pub format4_finds_stands : glyph_of (lookup4 xs at c) ≡ listed_glyph ps c
    format4_finds_stands = ap glyph_of format4_gives_stands ∙ found_glyph c

  pub format4_finds_between : (front back : List ℕ) (c : ℕ) → glyph_of (lookup4 (front ++ (T ++ back)) (length front) c) ≡ listed_glyph ps c
  format4_finds_between front back c = format4_finds_stands (stands_append front T back) c

  -- in what a writer leaves
  pub format4_finds_sets : (out : List ℕ) (at : ℕ) → at + length T ≤ length out → (c : ℕ) → glyph_of (lookup4 (sets out at T) at c) ≡ listed_glyph ps c
  format4_finds_sets out at h c = format4_finds_stands (stands_sets out at T h) c

-- ---- two columns as pairs: what is found, one by one

module _ (language : ℕ) (cs gs : List ℕ) (l : Listed16 (pairs cs gs)) (w : FieldsFit language (pairs cs gs)) where
  pub gives_glyph : (k : ℕ) → Rising cs → length cs ≡ length gs → k < length cs → lookup4 (format4 language (pairs cs gs)) 0 (get_or cs k 0) ≡ Some (get_or gs k 0)
  gives_glyph k r e h = format4_gives language (pairs cs gs) l w (get_or cs k 0) ∙ listed_nth (unlisted None Some (get_or cs k 0)) Some cs gs k r e h

  module _ (c : ℕ) (absent : (k : ℕ) → k < length cs → get_or cs k 0 ≡ c → ⊥) where
    pub gives_zero : c ≡ 0xFFFF → lookup4 (format4 language (pairs cs gs)) 0 c ≡ Some 0
    gives_zero e = format4_gives language (pairs cs gs) l w c ∙ listed_absent (unlisted None Some c) Some cs gs c absent ∙ rw e

    pub gives_nothing : (c ≡ 0xFFFF → ⊥) → lookup4 (format4 language (pairs cs gs)) 0 c ≡ None
    gives_nothing n = format4_gives language (pairs cs gs) l w c ∙ listed_absent (unlisted None Some c) Some cs gs c absent ∙ rw (ne_eqb c 0xFFFF n)
