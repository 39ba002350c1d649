-- The loop that writes the tables from the last to the first: its invariant, and a rule for each way on.
use Prim.Native.Nat.{ℕ, ◌+◌, ◌-◌, ◌<◌, ◌≤◌}
use mathlib.Core.Path.{◌≡◌, refl}
use mathlib.Core.List.{List}
use native.Mathlib.Omega.{arith}
use lib.ListN.{length, get_or, length-append}
use lib.Seq.{sets, length-sets}
use Rattle.laws.specs.Pieces.{concat}
use Rattle.laws.specs.Lasts.{lasts, behind}
use Rattle.laws.proofs.LastsLaws.{behind_le}
use Rattle.laws.proofs.SetsCommLaws.{sets_before}
use Rattle.format14.specs.Selectors.{Job14}
use Rattle.format14.specs.ByNumber.{slot}
use Rattle.format14.specs.Ends.{from, written_from, Ends}
use Rattle.format14.specs.Parts.{Stops, ends_at}
use Rattle.format14.proofs.SlotsLaws.{written_turn, written_still, behind_turn}

-- those of the tables from k on that are written stand before `stop`
pub record Filling (f : ℕ → List ℕ) (m stop : ℕ) (out₀ : List ℕ) (k : ℕ) (out : List ℕ) (tail : ℕ) : Type 0 where
  pub within : k ≤ m
  pub same : length out ≡ length out₀
  pub total : tail ≡ length (concat (written_from f m k))
  pub is : out ≡ sets out₀ (stop - tail) (concat (written_from f m k))

module _ (f : ℕ → List ℕ) (m stop : ℕ) (out₀ : List ℕ) where
  pub filling_start : (k : ℕ) → k ≡ m → Filling f m stop out₀ k out₀ 0
  unfolding from lasts concat
  filling_start k s =
      let e : m - k ≡ 0 = omega arith in
      record { within = omega arith; same = refl; total = rw e; is = rw e }

  module _ (k : ℕ) (out : List ℕ) (tail : ℕ) (ends : List ℕ) (p : Filling f m stop out₀ k out tail) (e : Ends f m ends) (h : 0 < k) where
    back : k - 1 + 1 ≡ k
    back = omega arith

    inside : k - 1 < m
    inside = omega (arith, p.within)

    far_is : get_or ends (k - 1) 0 ≡ behind (f (k - 1)) (written_from f m 0)
    far_is = e.each (k - 1) inside

    pub filling_still : get_or ends (k - 1) 0 ≤ tail → Filling f m stop out₀ (k - 1) out tail
    filling_still l =
        let low : behind (f (k - 1)) (written_from f m 0) ≤ length (concat (written_from f m (k - 1 + 1))) = rw back (omega (arith, far_is, p.total)) in
        let same = rw back at (written_still f m (k - 1) inside low) in
        record { within = omega (arith, p.within); same = p.same; total = rw same p.total; is = rw same p.is }

    module _ (z : Stops f m stop out₀) where
      pub far_fits : get_or ends (k - 1) 0 ≤ stop
      far_fits = rw far_is (omega (arith, behind_le (f (k - 1)) (written_from f m 0), z.room))

      module _ (l : tail < get_or ends (k - 1) 0) where
        high : length (concat (written_from f m (k - 1 + 1))) < behind (f (k - 1)) (written_from f m 0)
        high = rw back (omega (arith, far_is, p.total))

        far_sum : get_or ends (k - 1) 0 ≡ length (f (k - 1)) + tail
        far_sum =
            let sum = rw back at (behind_turn f m (k - 1) inside high) in
            omega (arith, far_is, sum, p.total)

        filling_room : stop - get_or ends (k - 1) 0 + length (f (k - 1)) ≤ length out
        filling_room = omega (arith, far_sum, far_fits, p.same, z.within)

        pub filling_last : (next : List ℕ) → next ≡ sets out (stop - get_or ends (k - 1) 0) (f (k - 1)) → Filling f m stop out₀ (k - 1) next (get_or ends (k - 1) 0)
        unfolding concat
        filling_last next d =
            let more = rw back at (written_turn f m (k - 1) inside high) in
            let place : stop - get_or ends (k - 1) 0 + length (f (k - 1)) ≡ stop - tail = omega (arith, far_sum, far_fits) in
            record {
              within = omega (arith, p.within);
              same = rw (d, length-sets) p.same;
              total = rw (more, length-append) (omega (arith, far_sum, p.total));
              is = rw (d, p.is, more) (sets_before out₀ (f (k - 1)) (concat (written_from f m k)) (stop - tail) (stop - get_or ends (k - 1) 0) place);
            }

  pub filling_end : (k : ℕ) (out : List ℕ) (tail : ℕ) → Filling f m stop out₀ k out tail → k ≤ 0 → out ≡ ends_at stop out₀ (concat (written_from f m 0))
  filling_end k out tail p h =
      let z : k ≡ 0 = omega arith in
      let total = rw z at p.total in
      let is = rw z at p.is in
      rw (← total) is

pub ruleset filling = (filling_start, filling_still, filling_last, filling_end)

pub slot_room : (g : Job14) (m stop : ℕ) (out₀ : List ℕ) (k : ℕ) (out : List ℕ) (tail : ℕ) (ends : List ℕ) → Filling (slot g) m stop out₀ k out tail → Ends (slot g) m ends → 0 < k
    → Stops (slot g) m stop out₀ → tail < get_or ends (k - 1) 0 → stop - get_or ends (k - 1) 0 + length (slot g (k - 1)) ≤ length out
slot_room g m stop out₀ k out tail ends p e h z l = filling_room (slot g) m stop out₀ k out tail ends p e h z l
