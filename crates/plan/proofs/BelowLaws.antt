-- The listed pairs of a format 4 lie below 65,536.
use Prim.Native.Nat.{ℕ, zero, suc, ◌+◌, ◌*◌, ◌<◌}
use mathlib.Core.Path.{◌≡◌, refl}
use mathlib.Core.List.{List, [], ◌∷◌}
use mathlib.Core.Bool.{Bool, true, false}
use native.Mathlib.Omega.{arith}
use lib.ListN.{get_or}
use Rattle.laws.specs.Choice.{pick}
use Rattle.laws.specs.Lists.{Pair, pairs}
use Rattle.laws.specs.Select.{select}
use Rattle.laws.proofs.ChoiceLaws.{both_right, false-true}
use Rattle.number.specs.BigEndian.{Bytes}
use Rattle.number.proofs.BigEndianLaws.{be_lt}
use Rattle.source.specs.declared.Kind.{Kind}
use Rattle.source.specs.declared.Kind.TheVariants.{Format4, Format12, Format14, Unreadable}
use Rattle.source.specs.Kind.{format_of}
use Rattle.source_header.specs.Header.{offset_of}
use Rattle.source_records.specs.Records.{leads_to}
use Rattle.format4_mapped.specs.Mapped4.{maps4, last_says, segment4}
use Rattle.plan_listing.specs.Listing.{maps_as, maps, listed, code_column}
use lib.Dec.{leb}
use borrow.Author.Tests.{leb-true}
use Rattle.plan.specs.Making.{Leads}

-- a column's places hold the numbers below b of those that pass
select_below : (p : ℕ → Bool) (b : ℕ) → 0 < b → ((c : ℕ) → p c ≡ true → c < b) → (ps : List Pair) (k : ℕ) → get_or (code_column (select (λ q. p q.0) ps)) k 0 < b
unfolding select
select_below p b z h [] k = z
select_below p b z h (x ∷ ps) k = go (p x.0) refl (select (λ q. p q.0) ps) (select_below p b z h ps) k
  where
    go : (t : Bool) → p x.0 ≡ t → (r : List Pair) → ((i : ℕ) → get_or (code_column r) i 0 < b) → (k : ℕ) → get_or (code_column (pick t (x ∷ r) r)) k 0 < b
    go true e r u zero = h x.0 e
    go true e r u (suc k) = u k
    go false e r u k = u k

last_below : (hit says : ℕ → Bool) (b c : ℕ) → ((i : ℕ) → hit i ≡ true → c < b) → (n : ℕ) → last_says hit says n ≡ true → c < b
unfolding last_says
last_below hit says b c h zero e = absurd (false-true e)
last_below hit says b c h (suc n) e = go (hit n) refl (last_says hit says n) (last_below hit says b c h n) e
  where
    go : (t : Bool) → hit n ≡ t → (r : Bool) → (r ≡ true → c < b) → pick t (says n) r ≡ true → c < b
    go true q r u d = h n q
    go false q r u d = u d

maps4_below : (xs : List ℕ) (at s len c : ℕ) → Bytes xs → maps4 xs at s len c ≡ true → c < 65536
unfolding maps4
maps4_below xs at s len c b e =
    last_below _ _ 65536 c
    (λ i q.
    let l = leb-true c (segment4 xs at s i).end (both_right (leb (segment4 xs at s i).start c) (leb c (segment4 xs at s i).end) q) in
    let u = be_lt 2 xs (at + 14 + 2 * i) b in
    omega arith)
    _ e

pub listed_below : (xs : List ℕ) (n : ℕ) (cs gs : List ℕ) (k : ℕ) → Bytes xs → Leads xs k 4 → (i : ℕ) → get_or (code_column (listed xs n cs gs k)) i 0 < 65536
unfolding listed maps
listed_below xs n cs gs k b l i = select_below (maps xs n k) 65536 (omega arith) (λ c e. go (leads_to xs k) l.is c e) (pairs cs gs) i
  where
    go : (kind : Kind) → format_of kind ≡ 4 → (c : ℕ) → maps_as kind xs (offset_of xs k) n c ≡ true → c < 65536
    go (Format4 language s len) f c e = maps4_below xs (offset_of xs k) s len c b e
    go (Format12 language g len) f c e = absurd (omega arith)
    go (Format14 r len) f c e = absurd (omega arith)
    go Unreadable f c e = absurd (omega arith)
