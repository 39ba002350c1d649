-- From what planning leaves to the answer, to what writing asks for, and to a fate.
use Prim.Native.Nat.{ℕ, ◌<◌}
use mathlib.Core.Path.{◌≡◌, refl, sym, ap, ◌∙◌}
use mathlib.Core.List.{List}
use native.Mathlib.Omega.{arith}
use lib.ListN.{length, take}
use Rattle.source_header.specs.Header.{record_count, platform_of, encoding_of}
use Rattle.plan_listing.specs.Job.{Job}
use Rattle.plan.specs.declared.Notes.{Notes}
use Rattle.plan.specs.declared.Outcome.{Outcome}
use Rattle.plan.specs.declared.Outcome.TheVariants.{LeftOut, BadMapping, Served, Made}
use Rattle.plan.specs.Outcomes.{at}
use Rattle.plan.specs.Sizes.{Small}
use Rattle.plan.specs.Plan.{plan}
use Rattle.plan.specs.Prepared.{Prepared}
use Rattle.plan.specs.Notes.{outcomes_in, Fronted, Endings}
use Rattle.plan.proofs.PlanLaws.{prepared_again}
use Rattle.result.specs.Result.{new_offset}
use Rattle.result.specs.Layout.{place_by_sizes}
use Rattle.result.proofs.LengthLaws.{offset_place}
use Rattle.result.proofs.PlanLaws.{Serving, plan_served}
use Rattle.result.proofs.RefusalLaws.{refusal_late}
use Rattle.result_layout.specs.Counts.{Counts}
use Rattle.result_writer.specs.Writing.{WritesPlan}
use Rattle.cmap_promise.specs.declared.Fate.{Fate}
use Rattle.cmap_promise.specs.declared.FateKind.{FateKind}
use Rattle.cmap_promise.specs.declared.FateKind.TheVariants.{WrittenAt}
use Rattle.cmap_promise.specs.Fates.{kind_of, record_fate, fate_of}
use Rattle.cmap_concluding.specs.Concluding.{Passing, Planned, Concludes}
use Rattle.cmap_concluding.specs.Found.{ServersThere, fate_by}
use Rattle.cmap_concluding.proofs.PassingLaws.{planned, planned_settled}
use Rattle.cmap_concluding.proofs.AnswerLaws.{made_long}
use Rattle.cmap_rooms.specs.Rooms.{Writes}

-- a fate by offsets that agree
kind_alike : (here there : ℕ → ℕ) (o : Outcome) (k : ℕ) → ((i : ℕ) → here i ≡ there i) → kind_of here o k ≡ kind_of there o k
kind_alike here there (LeftOut why) k h = refl
kind_alike here there BadMapping k h = refl
kind_alike here there (Served by) k h = ap WrittenAt (h by)
kind_alike here there (Made size) k h = ap WrittenAt (h k)

module _ (j : Job) (notes : Notes) where
  abbrev os : List Outcome
  os = outcomes_in (record_count j.source) notes

  -- the outcomes that are lent
  pub lent_is : (m : ℕ) → m ≡ record_count j.source → take m notes.outcomes ≡ os
  unfolding outcomes_in
  lent_is m e = rw e refl

  module _ (p : Passing j) (e : os ≡ plan j) (q : Small os) (f : Fronted j notes) where
    pub is_planned : Planned j os
    is_planned = planned j os p e q

    pub is_settled : Concludes j.source os
    is_settled = planned_settled j os is_planned

    -- planning leaves room to write in
    pub to_write : (fs ot tocs togs fs' tocs' togs' : List ℕ) → Prepared j fs ot tocs togs → Endings j os (record_count j.source) notes
        → length fs' ≡ length fs → length tocs' ≡ length tocs → length togs' ≡ length togs → Writes j notes fs' tocs' togs'
    to_write fs ot tocs togs fs' tocs' togs' r g a b c = record {
      others = ot;
      planned = is_planned;
      prepared = prepared_again j fs ot tocs togs r fs' ot tocs' togs' a refl b c;
      fronted = f;
      endings = g;
    }

    pub is_found : ServersThere os
    is_found = record { told = is_planned.told; serving = λ k r d. earlier k r (plan_served j k r (ap (λ (o : List Outcome). at o k) (sym e) ∙ d)) }
      where
        earlier : (k r : ℕ) → Serving j k r → r < length os
        earlier k r t = omega (arith, t.earlier, t.inside, is_settled.all)

    place_offset : (i : ℕ) → place_by_sizes os i ≡ new_offset j (plan j) i
    place_offset i = ap (λ (o : List Outcome). place_by_sizes o i) e ∙ sym (offset_place j (plan j) (made_long j) i)

    fate_same : (k : ℕ) → record_fate (place_by_sizes os) j.source os k ≡ record_fate (new_offset j (plan j)) j.source (plan j) k
    fate_same k =
        ap (λ (z : FateKind). record { platform = platform_of j.source k; encoding = encoding_of j.source k; kind = z })
        (kind_alike (place_by_sizes os) (new_offset j (plan j)) (at os k) k place_offset ∙ ap (λ (o : List Outcome). kind_of (new_offset j (plan j)) (at o k) k) e)

    pub fate_told : (k : ℕ) (r : Fate) → r ≡ fate_by j.source os k → r ≡ fate_of j k
    unfolding fate_of fate_by
    fate_told k r w = rw (refusal_late j p.passed) (rw (fate_same k, e) at w)

  module _ (flags tocodes toglyphs : List ℕ) where
    pub writes_planned : Writes j notes flags tocodes toglyphs → Planned j os
    writes_planned w = w.planned

    pub writes_plan : (count : ℕ) → Writes j notes flags tocodes toglyphs → Counts os count → WritesPlan j notes count flags tocodes toglyphs
    writes_plan count w c = record {
      others = w.others;
      prepared = w.prepared;
      is = w.planned.is;
      counts = c;
      fronted = w.fronted;
      endings = w.endings;
    }

pub ruleset carrying = (is_planned, is_settled, to_write, is_found, fate_told)

pub ruleset writing = (writes_planned, writes_plan)
