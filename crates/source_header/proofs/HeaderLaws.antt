-- What an accepted header tells of the source, and which sources give it.
use Rattle.std.specs.Prelude.{Option, Some, None}
use Prim.Native.Nat.{ℕ, ◌+◌, ◌*◌, ◌≤◌}
use mathlib.Core.Path.{◌≡◌, refl, subst}
use mathlib.Core.List.{List}
use mathlib.Core.Bool.{true, false, not}
use lib.ListN.{length}
use lib.Dec.{ltb, eqb}
use borrow.Author.Tests.{ltb-false, le-ltb, eqb-true, eq-eqb}
use Rattle.laws.proofs.ChoiceLaws.{by_pick, else_lt}
use Rattle.laws.proofs.EitherLaws.{not-false, true_of_not, neither_left, neither_right}
use Rattle.number.specs.Limits.{records_max}
use Rattle.number.specs.BigEndian.{Num}
use Rattle.source_header.specs.Header.{version, record_count, refused5, header_of, offset_of, entry_at}

-- n records follow the header
pub record Accepted (xs : List ℕ) (n : ℕ) : Type 0 where
  pub count : n ≡ record_count xs
  pub header : 4 ≤ length xs
  pub zero : version xs ≡ 0
  pub few : n ≤ 64
  pub fits : 4 + 8 * n ≤ length xs

pub accepted_of : (xs : List ℕ) → refused5 xs ≡ false → Accepted xs (record_count xs)
unfolding refused5
accepted_of xs e =
    let e₁ = neither_right (ltb (length xs) 4) _ e in
    let e₂ = neither_right (not (eqb (version xs) 0)) _ e₁ in
    record {
      count = refl;
      header = ltb-false _ _ (neither_left _ _ e);
      zero = eqb-true _ _ (true_of_not _ (neither_left _ _ e₁));
      few = ltb-false _ _ (neither_left _ _ e₂);
      fits = ltb-false _ _ (neither_right (ltb records_max (record_count xs)) _ e₂);
    }

pub not_refused : {n : ℕ} (xs : List ℕ) → Accepted xs n → refused5 xs ≡ false
unfolding refused5
not_refused xs a =
    rw (← a.count, le-ltb _ _ a.header, eq-eqb _ _ a.zero, le-ltb _ _ a.few, le-ltb _ _ a.fits)

pub gives_records : {n : ℕ} (xs : List ℕ) → Accepted xs n → Some n ≡ header_of xs
unfolding header_of
gives_records xs a = rw (not_refused xs a, ← a.count)

pub gives_refused : (xs : List ℕ) → (Accepted xs (record_count xs) → ⊥) → None ≡ header_of xs
unfolding header_of
gives_refused xs h = rw (not-false (refused5 xs) (λ e. h (accepted_of xs e)))

pub tells_records : {n : ℕ} (xs : List ℕ) → header_of xs ≡ Some n → Accepted xs n
unfolding header_of
tells_records xs e = subst Told e (by_pick Told (refused5 xs) None (Some (record_count xs)) (λ t. tt) (accepted_of xs))
  where
    Told : Option ℕ → Type 0
    Told (Some n) = Accepted xs n
    Told None = Unit {0}

pub tells_refused : (xs : List ℕ) → header_of xs ≡ None → refused5 xs ≡ true
unfolding header_of
tells_refused xs e = subst Told e (by_pick Told (refused5 xs) None (Some (record_count xs)) (λ t. t) (λ t. tt))
  where
    Told : Option ℕ → Type 0
    Told (Some n) = Unit {0}
    Told None = refused5 xs ≡ true

-- ---- a record whose eight bytes are there, by the numbers that were read

pub gives_record : (xs : List ℕ) (k p e o : ℕ) → 12 + 8 * k ≤ length xs → Num 2 xs (4 + 8 * k) p → Num 2 xs (6 + 8 * k) e → o ≡ offset_of xs k
    → Some (record { platform = p; encoding = e; offset = o }) ≡ entry_at xs k
unfolding entry_at
gives_record xs k p e o h a b d = else_lt _ _ _ _ h (rw (a.is, b.is, d))
