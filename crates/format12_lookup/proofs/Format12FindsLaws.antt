-- A lookup in a written format 12 subtable gives the listed glyph of every listed code point, and nothing at any other.
use Rattle.std.specs.Prelude.{Some, None}
use Prim.Native.Nat.{ℕ, ◌<◌}
use mathlib.Core.Path.{◌≡◌, ap, ◌∙◌}
use mathlib.Core.List.{List}
use native.Mathlib.Omega.{arith}
use Rattle.laws.specs.Lists.{Pair}
use Rattle.laws.specs.Listed.{listed_as, listed_glyph}
use Rattle.laws.proofs.ListedLaws.{listed_ap}
use Rattle.laws.proofs.StandsLaws.{Stands}
use Rattle.source.proofs.KindLaws.{length_of}
use Rattle.heads_lookup.specs.Lookup as lookup
use Rattle.heads_lookup.proofs.StandsLaws.{lookup12_stands}
use Rattle.format12.specs.Format12.{format12}
use Rattle.format12_lookup.specs.Lookup.{Above}
use Rattle.format12_lookup.proofs.Lookup12Laws.{format12-lookup}
use Rattle.format12_lookup.proofs.Format12KindLaws.{length_is, format12_kind}

module _ (language : ℕ) (ps : List Pair) (h : language < 4294967296) (a : Above 0 ps) where
  abbrev T : List ℕ
  T = format12 language ps

  pub format12_gives : (c : ℕ) → lookup.lookup12 T 0 c ≡ listed_as None Some ps c
  unfolding lookup.lookup12
  format12_gives c = rw (format12_kind language ps h a) (format12-lookup language ps c a)

  pub format12_finds : (c : ℕ) → lookup.glyph_of (lookup.lookup12 T 0 c) ≡ listed_glyph ps c
  format12_finds c = ap lookup.glyph_of (format12_gives c) ∙ listed_ap lookup.glyph_of None Some ps c

  -- wherever it stands
  module _ {xs : List ℕ} {at : ℕ} (st : Stands xs at T) (c : ℕ) where
    pub format12_gives_stands : lookup.lookup12 xs at c ≡ listed_as None Some ps c
    format12_gives_stands = lookup12_stands st (omega (arith, length_is language ps)) (ap length_of (format12_kind language ps h a)) c ∙ format12_gives c

    -- the key fact: every number is found with its listed glyph, and with 0 where none is listed
    pub format12_finds_stands : lookup.glyph_of (lookup.lookup12 xs at c) ≡ listed_glyph ps c
    format12_finds_stands = ap lookup.glyph_of format12_gives_stands ∙ listed_ap lookup.glyph_of None Some ps c
