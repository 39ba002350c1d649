-- A new format 14 subtable is readable as itself: its number of selector records and its own length.
use Prim.Native.Nat.{ℕ, ◌+◌, ◌≤◌, ◌<◌}
use mathlib.Core.Path.{◌≡◌, sym, ap, ◌∙◌}
use mathlib.Core.List.{List, ◌++◌}
use native.Mathlib.Omega.{arith}
use lib.ListN.{length, length-append}
use Rattle.laws.specs.Pieces.{concat}
use Rattle.laws.specs.Select.{flat}
use Rattle.laws.proofs.StandsLaws.{Stands, stands_append}
use Rattle.number.specs.BigEndian.{be, enc}
use Rattle.number.proofs.BigEndianLaws.{length-enc, be_front, be_back, be-enc_fits}
use Rattle.number.proofs.StandsLaws.{be_stands}
use Rattle.source.specs.declared.Kind.TheVariants.{Format14}
use Rattle.source.specs.Kind as source
use Rattle.source.proofs.KindLaws.{gives14, Readable14, length_of as kind_length}
use Rattle.source.proofs.StandsLaws.{kind_stands}
use Rattle.format14.specs.Format14.{Row, written_tables, length_of14, row_bytes, header14, format14}
use Rattle.format14.proofs.WholeLaws.{length-format14}

module _ (rs : List Row) where
  abbrev T : List ℕ
  T = format14 rs

  abbrev rest : List ℕ
  rest = flat (row_bytes rs) rs ++ concat (written_tables rs)

  length_head : length (header14 rs) ≡ 10
  length_head =
      rw (length-append (enc 2 14) (enc 4 (length_of14 rs) ++ enc 4 (length rs)), length-append (enc 4 (length_of14 rs)) (enc 4 (length rs)), length-enc 2 14, length-enc 4 (length_of14 rs), length-enc 4 (length rs))

  in_head : (w at : ℕ) → at + w ≤ 10 → be w T at ≡ be w (header14 rs) at
  unfolding format14
  in_head w at h = be_front w (header14 rs) rest at (omega (arith, length_head))

  fourteen : be 2 T 0 ≡ 14
  fourteen =
      in_head 2 0 (omega arith) ∙ be_front 2 (enc 2 14) (enc 4 (length_of14 rs) ++ enc 4 (length rs)) 0 (omega (arith, length-enc 2 14)) ∙ be-enc_fits 2 14 (omega arith)

  module _ (few : length rs ≤ 512) (fits : length_of14 rs < 4294967296) where
    long : be 4 T 2 ≡ length_of14 rs
    long =
        in_head 4 2 (omega arith)
        ∙ be_stands (stands_append (enc 2 14) (enc 4 (length_of14 rs)) (enc 4 (length rs))) 4 0 2 (omega (arith, length-enc 2 14)) (omega (arith, length-enc 4 (length_of14 rs)))
        ∙ be-enc_fits 4 (length_of14 rs) (omega (arith, fits))

    many : be 4 T 6 ≡ length rs
    many =
        let at : 6 ≡ length (enc 2 14) + 4 = omega (arith, length-enc 2 14) in
        let next : 4 ≡ length (enc 4 (length_of14 rs)) + 0 = omega (arith, length-enc 4 (length_of14 rs)) in
        in_head 4 6 (omega arith)
        ∙ ap (be 4 (header14 rs)) at
        ∙ be_back 4 (enc 2 14) (enc 4 (length_of14 rs) ++ enc 4 (length rs)) 4
        ∙ ap (be 4 (enc 4 (length_of14 rs) ++ enc 4 (length rs))) next
        ∙ be_back 4 (enc 4 (length_of14 rs)) (enc 4 (length rs)) 0
        ∙ be-enc_fits 4 (length rs) (omega (arith, few))

    pub format14_readable : Readable14 T 0 (length rs) (length T)
    format14_readable =
        let e = length-format14 rs in
        record {
          records = sym many;
          long = e ∙ sym long;
          fourteen = fourteen;
          few = few;
          room = omega arith;
          fits = omega arith;
        }

    pub format14_kind : source.kind_at T 0 ≡ Format14 (length rs) (length T)
    format14_kind = sym (gives14 T 0 format14_readable)

    -- wherever it stands
    pub format14_kind_stands : {xs : List ℕ} {at : ℕ} → Stands xs at T → source.kind_at xs at ≡ Format14 (length rs) (length T)
    format14_kind_stands st = kind_stands st (omega (arith, length-format14 rs)) (ap kind_length format14_kind) ∙ format14_kind
