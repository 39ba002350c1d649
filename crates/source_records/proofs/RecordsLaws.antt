-- What a record that is all there is read as, and that each of the counted records is all there.
use Rattle.std.specs.Prelude.{Option, Some, None, IsSome}
use Prim.Native.Nat.{ℕ, ◌+◌, ◌*◌, ◌<◌}
use mathlib.Core.Path.{◌≡◌, refl, sym, ◌∙◌}
use mathlib.Core.List.{List}
use native.Mathlib.Omega.{arith}
use lib.ListN.{length}
use Rattle.laws.proofs.ChoiceLaws.{else_lt}
use Rattle.source.specs.declared.Kind.{Kind}
use Rattle.source_header.specs.declared.EncodingRecord.{EncodingRecord}
use Rattle.source_header.specs.Header.{entry_at, record_of}
use Rattle.source.specs.Kind.{kind_at}
use Rattle.source_records.specs.Records.{leads_to, Placed, Counted}

module _ (xs : List ℕ) (k : ℕ) where
  entry_placed : Placed xs k → Some (record_of xs k) ≡ entry_at xs k
  unfolding entry_at
  entry_placed p = else_lt (length xs) (12 + 8 * k) None (Some (record_of xs k)) p.inside refl

  pub entry_there : (e : Option EncodingRecord) → Placed xs k → e ≡ entry_at xs k → IsSome e
  entry_there e p q = rw (q, ← entry_placed p)

  pub entry_record : (e : Option EncodingRecord) (r : EncodingRecord) → Placed xs k → e ≡ entry_at xs k → e ≡ Some r → r ≡ record_of xs k
  entry_record e r p q h =
      let z : Some r ≡ Some (record_of xs k) = sym h ∙ q ∙ sym (entry_placed p) in
      cc

  pub leads_by : (r : EncodingRecord) (kind : Kind) → r ≡ record_of xs k → kind ≡ kind_at xs r.offset → kind ≡ leads_to xs k
  unfolding leads_to
  leads_by r kind e h = rw e at h

pub ruleset by_record = (entry_there, entry_record, leads_by)

pub placed : (xs : List ℕ) (n k : ℕ) → Counted xs n → k < n → Placed xs k
placed xs n k c h = record { inside = omega (arith, c.inside) }
