-- The walk over the tables that measures them, and refusal 8 asked table by table.
use Prim.Native.Nat.{ℕ, zero, suc, ◌+◌, ◌*◌, ◌/◌, ◌%◌, ◌<◌, ◌≤◌}
use mathlib.Core.Path.{◌≡◌, refl, ap, ◌∙◌}
use mathlib.Core.List.{List, [], ◌∷◌}
use mathlib.Core.Bool.{Bool}
use native.Mathlib.Nat.{add-zero}
use native.Mathlib.Omega.{arith}
use lib.ListN.{length, get_or, set, length-set, take}
use lib.Seq.{get_or-set_same, get_or-set_other}
use Rattle.std.specs.List.{list_any}
use Rattle.laws.specs.Search.{some}
use Rattle.laws.proofs.ChoiceLaws.{by_leb}
use Rattle.laws.proofs.SelectLaws.{any_select}
use Rattle.format14_sharing.specs.declared.Measure.{Measure}
use Rattle.format14_uvs.specs.Checksum.{checksum}
use Rattle.format14.specs.Selectors.{Job14, selector_records, keeps_selector, bad_record, bad_kept_record, names_missing}
use Rattle.format14.specs.ByNumber.{bad_slot, SourceOffset, ReadableJob, Measured, Measures}
use Rattle.format14.proofs.ByNumberLaws.{slot_like, bad_like}
use Rattle.format14_places.specs.Measuring.{EarlierTable}

-- ---- refusal 8

-- the tables of n records from k on, asked in place of the records
refused_pairs : (g : Job14) (n k : ℕ) → some (bad_slot g) (2 * n) (2 * k) ≡ some (bad_kept_record g) n k
unfolding some bad_slot
refused_pairs g zero k = refl
refused_pairs g (suc n) k =
    let two : 2 * suc n ≡ suc (suc (2 * n)) = omega arith in
    let even : 2 * k % 2 ≡ 0 = omega arith in
    let odd : (2 * k + 1) % 2 ≡ 1 = omega arith in
    let half : (2 * k + 1) / 2 ≡ k = omega arith in
    let next : 2 * k + 1 + 1 ≡ 2 * (k + 1) = omega arith in
    rw (two, even, odd, half, next, refused_pairs g n (k + 1))

-- a table brings it by what was found of it
abbrev brings : Measure → Bool
brings m = m.bad

asked : (p : ℕ → Bool) (n i : ℕ) (ms : List Measure) → n ≤ length ms → ((t : ℕ) (d : Measure) → t < n → brings (get_or ms t d) ≡ p (i + t)) → list_any brings (take n ms) ≡ some p n i
unfolding some
asked p zero i ms h e = refl
asked p (suc n) i [] h e = absurd (omega arith)
asked p (suc n) i (m ∷ ms) h e =
    let here : brings m ≡ p i = rw (add-zero i) at (e 0 m (omega arith)) in
    let rest : list_any brings (take n ms) ≡ some p n (i + 1) =
    asked p n (i + 1) ms (omega arith)
    (λ t d b.
    let next : i + suc t ≡ i + 1 + t = omega arith in
    rw next at (e (suc t) d (omega arith))) in
    rw (here, rest)

pub names_told : (g : Job14) (n : ℕ) (ms : List Measure) (b : Bool) → Measures g (2 * selector_records g) ms → n ≡ 2 * selector_records g → b ≡ list_any brings (take n ms) → b ≡ names_missing g
names_told g n ms b q e d =
    let z : 2 * 0 ≡ 0 = omega arith in
    d ∙ rw e (asked (bad_slot g) (2 * selector_records g) 0 ms q.room (λ t m h.
    let same : 0 + t ≡ t = omega arith in
    rw same (q.each t m h).bad))
    ∙ rw z at (refused_pairs g (selector_records g) 0)
    ∙ any_select (bad_record g) (keeps_selector g) (λ i. i) (selector_records g) 0

-- ---- table by table

pub measures_start : (g : Job14) (ms : List Measure) → Measures g 0 ms
measures_start g ms = record { room = omega arith; each = λ t d h. absurd (omega arith) }

pub measures_on : (g : Job14) (t : ℕ) (ms : List Measure) (m : Measure) → Measures g t ms → t < length ms → Measured g t m → Measures g (t + 1) (set ms t m)
measures_on g t ms m q r p = record {
  room = rw length-set (omega arith);
  each = λ j d b. by_leb (Measured g j (get_or (set ms t m) j d)) t j
      (λ a.
      let same : j ≡ t = omega arith in
      rw (same, get_or-set_same ms t m d r) p)
      (λ a. rw (get_or-set_other ms t j m d (λ e. omega arith)) (q.each j d a));
}

pub measures_all : (g : Job14) (t n : ℕ) (ms : List Measure) → Measures g t ms → t ≡ n → Measures g n ms
measures_all g t n ms q e = rw e at q

-- a table from the place of an earlier one of its sort
pub measured_like : (g : Job14) (t off : ℕ) (ms : List Measure) (m : Measure) → ReadableJob g → SourceOffset g t off → Measures g t ms → EarlierTable ms t off m → Measured g t m
measured_like g t off ms m r s q e =
    let u = e.number in
    let p : Measured g u m = rw (← e.is) at (q.each u m e.before) in
    let there : SourceOffset g u off = rw e.place at p.source in
    let same = slot_like g u t off r there s e.sort in
    record {
      size = record { is = p.size.is ∙ ap (λ (x : List ℕ). length x) same; below = p.size.below };
      sum = rw e.sort at p.sum ∙ ap (λ (x : List ℕ). checksum (4 + t % 2) x) same;
      bad = p.bad ∙ bad_like g u t off r there s e.sort;
      source = rw e.place s;
    }
