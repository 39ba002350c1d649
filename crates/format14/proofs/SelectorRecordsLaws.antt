-- Selector records by the distances of their tables: which are used, their offsets, and their bytes one after the other.
use Prim.Native.Nat.{ℕ, ◌+◌, ◌-◌, ◌*◌, ◌<◌, ◌≤◌}
use mathlib.Core.Path.{◌≡◌}
use mathlib.Core.List.{List, ◌++◌}
use mathlib.Core.Bool.{Bool, true, false}
use native.Mathlib.Nat.{add_assoc}
use native.Mathlib.Omega.{arith}
use lib.Dec.{ltb}
use lib.ListN.{length, get_or, length-append}
use lib.Seq.{sets}
use borrow.Author.Tests.{eq-eqb, ne_eqb, lt-ltb, le-ltb}
use Rattle.laws.specs.Select.{flat}
use Rattle.laws.proofs.SelectLaws.{Copying, copying_start, copying_room, copying_yes, copying_no, copying_end, length-flat}
use Rattle.laws.proofs.SetsLaws.{sets-append}
use Rattle.number.specs.BigEndian.{be, enc, put, Num}
use Rattle.number.proofs.BigEndianLaws.{length-enc}
use Rattle.format14.specs.SelectorRecords.{used_at, used_records, offset_for, selector_bytes, record_at, header14_with, Distances, Far}

-- ---- used

module _ (ends : List ℕ) (k : ℕ) where
  pub used_first : 0 < get_or ends (2 * k) 0 → true ≡ used_at ends k
  unfolding used_at
  used_first h = rw (lt-ltb 0 (get_or ends (2 * k) 0) h)

  pub used_second : get_or ends (2 * k) 0 ≤ 0 → ltb 0 (get_or ends (2 * k + 1) 0) ≡ used_at ends k
  unfolding used_at
  used_second h = rw (le-ltb 0 (get_or ends (2 * k) 0) h)

pub ruleset used_rules = (used_first, used_second)

-- ---- offsets

module _ (total far : ℕ) where
  pub offset_none : far ≡ 0 → 0 ≡ offset_for total far
  unfolding offset_for
  offset_none h = rw (eq-eqb far 0 h)

  pub offset_some : (far ≡ 0 → ⊥) → total - far ≡ offset_for total far
  unfolding offset_for
  offset_some h = rw (ne_eqb far 0 h)

pub ruleset offset_rules = (offset_none, offset_some)

module _ (k total : ℕ) (ends : List ℕ) (d : Distances (k + 1) total ends) where
  pub far_first : Far total (get_or ends (2 * k) 0)
  far_first = record { inside = d.inside (2 * k) (omega arith); fits = d.fits }

  pub far_second : Far total (get_or ends (2 * k + 1) 0)
  far_second = record { inside = d.inside (2 * k + 1) (omega arith); fits = d.fits }

pub distances_less : (n k total : ℕ) (ends : List ℕ) → Distances n total ends → k < n → Distances (k + 1) total ends
distances_less n k total ends d h = record { room = omega (arith, d.room); inside = λ t l. d.inside t (omega arith); fits = d.fits }

-- ---- three numbers written one behind the other

three : (a b c : ℕ) (out mid two fin : List ℕ) (i x y z : ℕ) → mid ≡ put a out i x → two ≡ put b mid (i + a) y → fin ≡ put c two (i + (a + b)) z
    → fin ≡ sets out i (enc a x ++ (enc b y ++ enc c z))
unfolding put
three a b c out mid two fin i x y z e₁ e₂ e₃ =
    rw (
      e₃,
      e₂,
      e₁,
      ← sets-append out i (enc a x) (enc b y ++ enc c z),
      length-enc a x,
      ← sets-append (sets out i (enc a x)) (i + a) (enc b y) (enc c z),
      length-enc b y,
      add_assoc,
    )

module _ (out mid two fin : List ℕ) (i : ℕ) where
  pub record_is : (x y z : ℕ) → mid ≡ put 3 out i x → two ≡ put 4 mid (i + 3) y → fin ≡ put 4 two (i + 7) z → fin ≡ sets out i (selector_bytes x y z)
  unfolding selector_bytes
  record_is x y z e₁ e₂ e₃ = three 3 4 4 out mid two fin i x y z e₁ e₂ e₃

  pub header_is : (x y : ℕ) → mid ≡ put 2 out i 14 → two ≡ put 4 mid (i + 2) x → fin ≡ put 4 two (i + 6) y → fin ≡ sets out i (header14_with x y)
  unfolding header14_with
  header_is x y e₁ e₂ e₃ = three 2 4 4 out mid two fin i 14 x y e₁ e₂ e₃

-- ---- one record

pub copied_is : (xs : List ℕ) (at total : ℕ) (ends : List ℕ) (k : ℕ) (out fin : List ℕ) (i x y z : ℕ) → Num 3 xs (at + 10 + 11 * k) x → y ≡ offset_for total (get_or ends (2 * k) 0)
    → z ≡ offset_for total (get_or ends (2 * k + 1) 0) → fin ≡ sets out i (selector_bytes x y z) → fin ≡ sets out i (record_at xs at total ends k)
unfolding record_at
copied_is xs at total ends k out fin i x y z n e₁ e₂ e = rw (e, n.is, e₁, e₂)

pub record_size : (xs : List ℕ) (at total : ℕ) (ends : List ℕ) (k : ℕ) → length (record_at xs at total ends k) ≡ 11
unfolding record_at selector_bytes
record_size xs at total ends k =
    rw (
      length-append,
      length-append,
      length-enc 3 (be 3 xs (at + 10 + 11 * k)),
      length-enc 4 (offset_for total (get_or ends (2 * k) 0)),
      length-enc 4 (offset_for total (get_or ends (2 * k + 1) 0)),
    )

-- ---- all that are used, one after the other

module _ (xs : List ℕ) (at total : ℕ) (ends : List ℕ) (n : ℕ) (out₀ : List ℕ) (to : ℕ) where
  pub records_size : length (flat (record_at xs at total ends) (used_records ends n)) ≡ 11 * length (used_records ends n)
  records_size = length-flat (record_at xs at total ends) 11 (record_size xs at total ends) (used_records ends n)

  abbrev pub Copies : List ℕ → ℕ → ℕ → Type 0
  Copies out place k = Copying (record_at xs at total ends) (used_at ends) (λ i. i) n out₀ to out place k

  pub copies_start : to + 11 * length (used_records ends n) ≤ length out₀ → Copies out₀ to 0
  copies_start h = copying_start (record_at xs at total ends) (used_at ends) (λ i. i) n out₀ to (rw records_size h)

  module _ (out : List ℕ) (place k : ℕ) (b : Bool) (l : Copies out place k) (h : k < n) (e : b ≡ used_at ends k) where
    pub copies_room : b ≡ true → place + 11 ≤ length out
    copies_room t = rw (record_size xs at total ends k) at (copying_room (record_at xs at total ends) (used_at ends) (λ i. i) n out₀ to out place k b l h e t)

    pub copies_yes : b ≡ true → (next : List ℕ) → next ≡ sets out place (record_at xs at total ends k) → Copies next (place + 11) (k + 1)
    copies_yes t next d = rw (record_size xs at total ends k) at (copying_yes (record_at xs at total ends) (used_at ends) (λ i. i) n out₀ to out place k b l h e t next d)

    pub copies_no : b ≡ false → Copies out place (k + 1)
    copies_no t = copying_no (record_at xs at total ends) (used_at ends) (λ i. i) n out₀ to out place k b l h e t

  pub copies_end : (out : List ℕ) (place k : ℕ) → Copies out place k → n ≤ k → out ≡ sets out₀ to (flat (record_at xs at total ends) (used_records ends n))
  copies_end out place k l h = copying_end (record_at xs at total ends) (used_at ends) (λ i. i) n out₀ to out place k l h

pub ruleset copies = (copies_start, copies_yes, copies_no, copies_end)
