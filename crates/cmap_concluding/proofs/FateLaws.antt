-- Each way out of the functions that tell a fate by the plan tells record k's fate.
use Rattle.std.specs.Prelude.{Result, Err}
use Prim.Native.Nat.{ℕ, ◌≤◌, ◌<◌}
use mathlib.Core.Path.{◌≡◌, refl}
use mathlib.Core.List.{List}
use native.Mathlib.Omega.{arith}
use lib.ListN.{length}
use borrow.Author.Tests.{eq-eqb, ne_eqb, lt-ltb, le-ltb}
use Rattle.source_header.specs.declared.EncodingRecord.{EncodingRecord}
use Rattle.source_header.specs.Header.{record_count, record_of}
use Rattle.source_records.specs.Records.{Placed, Counted}
use Rattle.plan.specs.declared.Outcome.{Outcome}
use Rattle.plan.specs.declared.Why.{Why}
use Rattle.plan.specs.declared.Outcome.TheVariants.{LeftOut, BadMapping, Served, Made}
use Rattle.result.specs.Result.{written_count}
use Rattle.result.specs.Layout.{place_by_sizes}
use Rattle.plan.specs.Outcomes.{at}
use Rattle.result.specs.declared.Refusal.{Refusal}
use Rattle.result.specs.declared.Refusal.TheVariants.{NamesMissing}
use Rattle.result.specs.Refusal.{refusal_told, late_refusal}
use Rattle.result.proofs.RefusalLaws.{told_some, told_case, told_no_case}
use Rattle.cmap_promise.specs.declared.Fate.{Fate}
use Rattle.cmap_promise.specs.declared.FateKind.{FateKind}
use Rattle.cmap_promise.specs.declared.FateKind.TheVariants.{WrittenAt, Refused, NoSuchRecord}
use Rattle.cmap_promise.specs.Fates.{left_out_as, kind_of, no_fate}
use Rattle.cmap_concluding.specs.Found.{ServersThere, fate_by}
use Rattle.cmap_concluding.specs.Concluding.{Concludes}
use Rattle.result_layout.specs.Counts.{Counts}

-- ---- by the outcome

module _ (os : List Outcome) (k : ℕ) where
  pub served_inside : (r : ℕ) → ServersThere os → at os k ≡ Served r → r < length os
  served_inside r q e = q.serving k r e

  module _ (kind : FateKind) where
    pub kind_left : (why : Why) → at os k ≡ LeftOut why → kind ≡ left_out_as why → kind ≡ kind_of (place_by_sizes os) (at os k) k
    kind_left why e w = rw e w

    pub kind_served : (r : ℕ) → at os k ≡ Served r → kind ≡ WrittenAt (place_by_sizes os r) → kind ≡ kind_of (place_by_sizes os) (at os k) k
    kind_served r e w = rw e w

    pub kind_made : (n : ℕ) → at os k ≡ Made n → kind ≡ WrittenAt (place_by_sizes os k) → kind ≡ kind_of (place_by_sizes os) (at os k) k
    kind_made n e w = rw e w

  pub kind_bad : at os k ≡ BadMapping → Refused NamesMissing ≡ kind_of (place_by_sizes os) (at os k) k
  kind_bad e = rw e refl

pub ruleset kinds = (served_inside, kind_left, kind_served, kind_made, kind_bad)

-- ---- by the plan

module _ (xs : List ℕ) (os : List Outcome) (c : Concludes xs os) where
  pub concludes_counted : Counted xs (length os)
  concludes_counted = record { is = c.all; inside = omega (arith, c.all, c.counted.inside) }

  pub concludes_counts : (count : ℕ) → count ≡ written_count os → count ≤ length os → Counts os count
  concludes_counts count e h = record { told = c.told; is = e; few = h }

  module _ (k : ℕ) (late : Result (Unit {0}) Refusal) (e : refusal_told late ≡ late_refusal xs os) where
    abbrev n : ℕ
    n = late_refusal xs os

    pub fate_refused : (r : Fate) (refusal : Refusal) → late ≡ Err refusal → r ≡ no_fate (Refused refusal) → r ≡ fate_by xs os k
    unfolding fate_by
    fate_refused r refusal q w =
        let h = told_some late n e refusal q in
        rw (← told_case late n e refusal q, ne_eqb n 0 (λ z. omega (arith, h, z))) w

    pub fate_missing : (r : Fate) → ((refusal : Refusal) → late ≡ Err refusal → ⊥) → length os ≤ k → r ≡ no_fate NoSuchRecord → r ≡ fate_by xs os k
    unfolding fate_by
    fate_missing r q l w = rw (eq-eqb n 0 (told_no_case late n e q), le-ltb k (record_count xs) (omega (arith, c.all, l))) w

    pub fate_there : ((refusal : Refusal) → late ≡ Err refusal → ⊥) → k < length os → (r : EncodingRecord) (kind : FateKind) → r ≡ record_of xs k → kind ≡ kind_of (place_by_sizes os) (at os k) k
        → record { platform = r.platform; encoding = r.encoding; kind = kind } ≡ fate_by xs os k
    unfolding fate_by
    fate_there q l r kind a b = rw (eq-eqb n 0 (told_no_case late n e q), lt-ltb k (record_count xs) (omega (arith, c.all, l)), a, b) refl

  pub found_placed : (k : ℕ) → k < length os → Placed xs k
  found_placed k h = record { inside = omega (arith, h, c.all, c.counted.inside) }

pub ruleset concluding = (concludes_counted, concludes_counts)

pub ruleset finding = (found_placed, fate_refused, fate_missing, fate_there)
