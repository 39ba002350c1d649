-- What a lookup answers by the kind that was read, and by a test of what it found.
use Rattle.std.specs.Prelude.{Option, Some, None}
use Rattle.std.specs.Bool.{then_some}
use Prim.Native.Nat.{ℕ}
use mathlib.Core.Path.{◌≡◌, refl}
use mathlib.Core.List.{List}
use lib.Dec.{leb}
use borrow.Author.Tests.{le-leb, lt-leb}
use Rattle.laws.specs.Choice.{if_lt}
use Rattle.laws.proofs.ChoiceLaws.{if_lt_lem, else_lt, by_leb}
use Rattle.source.specs.declared.Kind.{Kind}
use Rattle.source.specs.declared.Kind.TheVariants.{Format4, Format12, Format14, Unreadable}
use Rattle.source.specs.Kind.{kind_at}
use Rattle.heads_lookup.specs.Lookup.{lookup4_in, lookup4, lookup12_in, lookup12}

-- ---- a number that is at most n, or none

pub at_most : (n r : ℕ) → then_some (leb r n) r ≡ if_lt n r None (Some r)
at_most n r =
    by_leb (then_some (leb r n) r ≡ if_lt n r None (Some r)) r n
    (λ h. rw (le-leb r n h) (else_lt n r None (Some r) h refl))
    (λ h. rw (lt-leb r n h) (if_lt_lem n r None (Some r) h refl))

-- ---- the kind k that was read is j, or one that the lookup does not ask for

other4 : (k : Kind) (xs : List ℕ) (at c : ℕ) → ((l s len : ℕ) → k ≡ Format4 l s len → ⊥) → None ≡ lookup4_in k xs at c
other4 (Format4 l s len) xs at c f = absurd (f l s len refl)
other4 (Format12 l n len) xs at c f = refl
other4 (Format14 n len) xs at c f = refl
other4 Unreadable xs at c f = refl

other12 : (k : Kind) (xs : List ℕ) (at c : ℕ) → ((l n len : ℕ) → k ≡ Format12 l n len → ⊥) → None ≡ lookup12_in k xs at c
other12 (Format4 l s len) xs at c f = refl
other12 (Format12 l n len) xs at c f = absurd (f l n len refl)
other12 (Format14 n len) xs at c f = refl
other12 Unreadable xs at c f = refl

module _ (xs : List ℕ) (at c : ℕ) (k : Kind) where
  module _ (j : Kind) (r : Option ℕ) where
    pub by_kind4 : k ≡ kind_at xs at → k ≡ j → r ≡ lookup4_in j xs at c → r ≡ lookup4 xs at c
    unfolding lookup4
    by_kind4 q e h = rw (← q, e) h

    pub by_kind12 : k ≡ kind_at xs at → k ≡ j → r ≡ lookup12_in j xs at c → r ≡ lookup12 xs at c
    unfolding lookup12
    by_kind12 q e h = rw (← q, e) h

  pub by_other4 : k ≡ kind_at xs at → ((l s len : ℕ) → k ≡ Format4 l s len → ⊥) → None ≡ lookup4 xs at c
  unfolding lookup4
  by_other4 q f = rw (← q) (other4 k xs at c f)

  pub by_other12 : k ≡ kind_at xs at → ((l n len : ℕ) → k ≡ Format12 l n len → ⊥) → None ≡ lookup12 xs at c
  unfolding lookup12
  by_other12 q f = rw (← q) (other12 k xs at c f)
