-- A subtable that is as long as its length field says is read, where it stands in a source, as it is read alone.
use Prim.Native.Nat.{ℕ, ◌+◌, ◌<◌}
use mathlib.Core.Path.{◌≡◌, refl, sym}
use mathlib.Core.List.{List}
use native.Mathlib.Omega.{arith}
use lib.ListN.{length}
use Rattle.laws.proofs.StandsLaws.{Stands}
use Rattle.number.proofs.StandsLaws.{be_stands}
use Rattle.source.specs.declared.Kind.{Kind}
use Rattle.source.specs.declared.Kind.TheVariants.{Format4, Format12, Format14, Unreadable}
use Rattle.source.specs.Kind.{kind_at}
use Rattle.source.proofs.KindLaws.{gives4, gives12, gives14, tells4, tells12, tells14, length_of}

module _ {xs t : List ℕ} {at : ℕ} (st : Stands xs at t) where
  pub kind_stands : 0 < length t → length_of (kind_at t 0) ≡ length t → kind_at xs at ≡ kind_at t 0
  kind_stands h = go (kind_at t 0) refl
    where
      go : (k : Kind) → kind_at t 0 ≡ k → length_of k ≡ length t → kind_at xs at ≡ k
      go (Format4 l s len) e q =
          let r = tells4 t 0 e in
          let a = be_stands st 2 0 at (omega arith) (omega arith) in
          let b = be_stands st 2 2 (at + 2) refl (omega arith) in
          let c = be_stands st 2 4 (at + 4) refl (omega arith) in
          let d = be_stands st 2 6 (at + 6) refl (omega arith) in
          sym (gives4 xs at (omega (arith, st.inside)))
      go (Format12 l n len) e q =
          let r = tells12 t 0 e in
          let a = be_stands st 2 0 at (omega arith) (omega arith) in
          let b = be_stands st 4 4 (at + 4) refl (omega arith) in
          let c = be_stands st 4 8 (at + 8) refl (omega arith) in
          let d = be_stands st 4 12 (at + 12) refl (omega arith) in
          sym (gives12 xs at (omega (arith, st.inside)))
      go (Format14 n len) e q =
          let r = tells14 t 0 e in
          let a = be_stands st 2 0 at (omega arith) (omega arith) in
          let b = be_stands st 4 2 (at + 2) refl (omega arith) in
          let c = be_stands st 4 6 (at + 6) refl (omega arith) in
          sym (gives14 xs at (omega (arith, st.inside)))
      go Unreadable e q = absurd (omega arith)
