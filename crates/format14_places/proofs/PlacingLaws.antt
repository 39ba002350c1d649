-- The loop that places the tables from the last to the first: its invariant, and a rule for each way on.
use Prim.Native.Nat.{ℕ, ◌+◌, ◌-◌, ◌*◌, ◌^◌, ◌<◌, ◌≤◌}
use mathlib.Core.Path.{◌≡◌, refl, sym, ap, ◌∙◌}
use mathlib.Core.List.{List}
use mathlib.Core.Bool.{Bool}
use native.Mathlib.Omega.{arith}
use lib.ListN.{length, get_or, set, length-set}
use lib.Seq.{get_or-set_same, get_or-set_other}
use Rattle.laws.specs.Pieces.{concat}
use Rattle.laws.specs.Choice.{if_lt}
use Rattle.laws.specs.Select.{eq_list}
use Rattle.laws.specs.Lasts.{lasts, behind}
use Rattle.laws.proofs.ChoiceLaws.{by_leb, if_lt_lem, else_lt}
use Rattle.laws.proofs.FirstLaws.{first_from, first_holds, first_none}
use Rattle.laws.proofs.EqListLaws.{eq_true}
use Rattle.laws.proofs.LastsLaws.{length-concat}
use Rattle.format14.specs.Selectors.{Job14, selector_records}
use Rattle.format14.specs.ByNumber.{slot, SlotLength, ReadableJob, table_max}
use Rattle.format14.specs.Ends.{from, written_from, later_equal, Ends, Total}
use Rattle.format14.proofs.SlotsLaws.{from_apart, written_missing, written_again, written_new, behind_missing, behind_new, among-from}

-- the tables from k on have their distances, and tail is the length of those written
pub record Placing (f : ℕ → List ℕ) (m k : ℕ) (ends : List ℕ) (tail : ℕ) : Type 0 where
  pub within : k ≤ m
  pub room : m ≤ length ends
  pub total : tail ≡ length (concat (written_from f m k))
  pub few : tail ≤ table_max * (m - k)
  pub each : (j : ℕ) → k ≤ j → j < m → get_or ends j 0 ≡ behind (f j) (written_from f m 0)

pub placing_start : (f : ℕ → List ℕ) (m k : ℕ) (ends : List ℕ) → k ≡ m → m ≤ length ends → Placing f m k ends 0
unfolding from lasts concat
placing_start f m k ends s h =
    let e : m - k ≡ 0 = omega arith in
    record { within = omega arith; room = h; total = rw e; few = omega arith; each = λ j a b. absurd (omega arith) }

-- size is the length of the last table that is not placed
module _ (g : Job14) (m k : ℕ) (ends : List ℕ) (tail size : ℕ) (p : Placing (slot g) m k ends tail) (q : SlotLength g (k - 1) size) (h : 0 < k) where
  abbrev f : ℕ → List ℕ
  f = slot g

  -- the distance of one more table
  each_more : (v : ℕ) → v ≡ behind (f (k - 1)) (written_from f m 0) → (j : ℕ) → k - 1 ≤ j → j < m → get_or (set ends (k - 1) v) j 0 ≡ behind (f j) (written_from f m 0)
  each_more v e j a b =
      by_leb (get_or (set ends (k - 1) v) j 0 ≡ behind (f j) (written_from f m 0)) j (k - 1)
      (λ l.
      let same : j ≡ k - 1 = omega arith in
      rw same (get_or-set_same ends (k - 1) v 0 (omega (arith, p.room, p.within)) ∙ e))
      (λ l. get_or-set_other ends (k - 1) j v 0 (λ d. omega arith) ∙ p.each j (omega arith) b)

  back : k - 1 + 1 ≡ k
  back = omega arith

  inside : k - 1 < m
  inside = omega (arith, p.within)

  pub placing_missing : size ≡ 0 → Placing f m (k - 1) (set ends (k - 1) 0) tail
  placing_missing z =
      let none : length (f (k - 1)) ≡ 0 = sym q.is ∙ z in
      let same = rw back at (written_missing f m (k - 1) inside none) in
      record {
        within = omega (arith, p.within);
        room = rw length-set p.room;
        total = rw same p.total;
        few = omega (arith, p.few, p.within);
        each = each_more 0 (sym (behind_missing f m (k - 1) none));
      }

  -- j is the code's own answer for the next equal table
  module _ (j : ℕ) (e : j ≡ later_equal f m (k - 1)) (z : size ≡ 0 → ⊥) where
    some_length : 0 < length (f (k - 1))
    some_length = omega (arith, q.is)

    placing_again : j < m → Placing f m (k - 1) (set ends (k - 1) (get_or ends j 0)) tail
    placing_again l =
        let t : ℕ → Bool = λ i. eq_list (f (k - 1)) (f i) in
        let low = first_from t (m - (k - 1 + 1)) (k - 1 + 1) in
        let yes = first_holds t (m - (k - 1 + 1)) (k - 1 + 1) (omega (arith, e, p.within)) in
        let equal : f (k - 1) ≡ f j = eq_true (f (k - 1)) (f j) (rw e yes) in
        let here = among-from f (m - (k - 1 + 1)) (k - 1 + 1) j (omega (arith, e)) (omega (arith, p.within)) (rw equal at some_length) in
        let same = rw back at (written_again f m (k - 1) inside some_length (rw equal here)) in
        record {
          within = omega (arith, p.within);
          room = rw length-set p.room;
          total = rw same p.total;
          few = omega (arith, p.few, p.within);
          each = each_more (get_or ends j 0) (p.each j (omega (arith, e)) l ∙ ap (λ u. behind u (written_from f m 0)) (sym equal));
        }

    placing_new : m ≤ j → Placing f m (k - 1) (set ends (k - 1) (tail + size)) (tail + size)
    placing_new l =
        let t : ℕ → Bool = λ i. eq_list (f (k - 1)) (f i) in
        let no = first_none t (m - (k - 1 + 1)) (k - 1 + 1) (omega (arith, e, p.within)) in
        let apart = from_apart f (f (k - 1)) (m - (k - 1 + 1)) (k - 1 + 1) no in
        let fresh = rw back at (written_new f m (k - 1) inside some_length apart) in
        let far = rw back at (behind_new f m (k - 1) inside some_length apart) in
        record {
          within = omega (arith, p.within);
          room = rw length-set p.room;
          total = rw (fresh, length-concat (f (k - 1)) (written_from f m k)) (omega (arith, p.total, q.is));
          few = omega (arith, p.few, p.within, q.below);
          each = each_more (tail + size) (omega (arith, far, p.total, q.is));
        }

    -- the number n of tables, the distance and the length are the code's own
    pub placing_there : (n : ℕ) (next : List ℕ) (r : ℕ) → n ≡ m → next ≡ set ends (k - 1) (if_lt j n (get_or ends j 0) (tail + size)) → r ≡ if_lt j n tail (tail + size)
        → Placing f m (k - 1) next r
    placing_there n next r s d w =
        by_leb (Placing f m (k - 1) next r) m j
        (λ l.
        let u = d ∙ sym (ap (set ends (k - 1)) (else_lt j n (get_or ends j 0) (tail + size) (omega arith) refl)) in
        let v = w ∙ sym (else_lt j n tail (tail + size) (omega arith) refl) in
        rw (u, v) (placing_new l))
        (λ l.
        let u = d ∙ sym (ap (set ends (k - 1)) (if_lt_lem j n (get_or ends j 0) (tail + size) (omega arith) refl)) in
        let v = w ∙ sym (if_lt_lem j n tail (tail + size) (omega arith) refl) in
        rw (u, v) (placing_again l))

-- at the end every table has its distance
pub placing_ends : (f : ℕ → List ℕ) (m k : ℕ) (ends : List ℕ) (tail : ℕ) → Placing f m k ends tail → k ≤ 0 → Ends f m ends
placing_ends f m k ends tail p h = record { room = p.room; each = λ j b. p.each j (omega arith) b }

pub placing_total : (f : ℕ → List ℕ) (m k : ℕ) (ends : List ℕ) (tail : ℕ) → Placing f m k ends tail → k ≤ 0 → Total f m tail
placing_total f m k ends tail p h =
    let z : k ≡ 0 = omega arith in
    record { is = rw z at p.total; few = omega (arith, p.few) }

-- sums stay small
pub tail_fits : (g : Job14) (k : ℕ) (ends : List ℕ) (tail size : ℕ) → ReadableJob g → Placing (slot g) (2 * selector_records g) k ends tail → SlotLength g (k - 1) size → 0 < k → tail + size < 2 ^ 64
tail_fits g k ends tail size r p q h = omega (arith, p.few, p.within, q.below, r.few)
