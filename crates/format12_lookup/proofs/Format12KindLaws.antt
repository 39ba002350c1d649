-- A written format 12 subtable is readable, as itself: its language, its number of groups, and its own length.
use Prim.Native.Nat.{ℕ, ◌+◌, ◌*◌, ◌<◌}
use mathlib.Core.Path.{◌≡◌, sym, ap, ◌∙◌}
use mathlib.Core.List.{List}
use native.Mathlib.Omega.{arith}
use lib.ListN.{length}
use Rattle.laws.specs.Lists.{Pair}
use Rattle.number.specs.Row.{encs}
use Rattle.laws.proofs.StandsLaws.{Stands}
use Rattle.source.specs.declared.Kind.TheVariants.{Format12}
use Rattle.source.specs.Kind.{kind_at}
use Rattle.source.proofs.KindLaws.{gives12, Readable12, length_of}
use Rattle.source.proofs.StandsLaws.{kind_stands}
use Rattle.format12.specs.Format12.{groups, fields, group_table, format12}
use Rattle.format12.proofs.TableLaws.{length_table}
use Rattle.format12_lookup.specs.Lookup.{Above}
use Rattle.format12_lookup.proofs.BytesLaws.{groups_few, header_format, header_number}

module _ (language : ℕ) (ps : List Pair) where
  abbrev T : List ℕ
  T = format12 language ps

  pub length_is : length T ≡ 16 + 12 * length (groups ps)
  length_is = length_table 12 language (groups ps)

  module _ (h : language < 4294967296) (a : Above 0 ps) where
    pub format12_readable : Readable12 T 0 language (length (groups ps)) (length T)
    unfolding group_table
    format12_readable =
        let n = length (groups ps) in
        let b = encs 4 (fields (groups ps)) in
        let few = groups_few ps a in
        let e = length_is in
        record {
          language = sym (header_number 12 language n b 1 8 (omega arith) (omega arith) (omega (arith, h)));
          groups = sym (header_number 12 language n b 2 12 (omega arith) (omega arith) (omega (arith, few)));
          long = e ∙ sym (header_number 12 language n b 0 4 (omega arith) (omega arith) (omega (arith, few)));
          twelve = header_format 12 language n b (omega arith);
          room = omega arith;
          fits = omega arith;
        }

    pub format12_kind : kind_at T 0 ≡ Format12 language (length (groups ps)) (length T)
    format12_kind = sym (gives12 T 0 format12_readable)

    -- wherever it stands
    pub format12_kind_stands : {xs : List ℕ} {at : ℕ} → Stands xs at T → kind_at xs at ≡ Format12 language (length (groups ps)) (length T)
    format12_kind_stands st = kind_stands st (omega (arith, length_is)) (ap length_of format12_kind) ∙ format12_kind
