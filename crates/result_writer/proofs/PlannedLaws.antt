-- What writing asks for, of the plan of a job that may be worked on.
use Prim.Native.Nat.{ℕ, ◌<◌}
use mathlib.Core.Path.{◌≡◌, refl, sym, ap, ◌∙◌}
use mathlib.Core.List.{List}
use mathlib.Core.Bool.{true}
use native.Mathlib.Omega.{arith}
use lib.ListN.{length}
use Rattle.laws.proofs.ChoiceLaws.{by_leb, false-true}
use Rattle.source_header.specs.Header.{record_count}
use Rattle.plan_listing.specs.Job.{Job}
use Rattle.plan.specs.declared.Outcome.{Outcome}
use Rattle.plan.specs.declared.Outcome.TheVariants.{LeftOut, BadMapping, Served, Made}
use Rattle.plan.specs.Outcomes.{is_made}
use Rattle.plan.specs.Sizes.{made_size}
use Rattle.plan.specs.Fresh.{table_of}
use Rattle.plan.specs.Making.{Ready}
use Rattle.plan.proofs.OutcomesLaws.{length-plan}
use Rattle.plan.proofs.PlanLaws.{ready, prepared_again}
use Rattle.result.proofs.MadeLaws.{made_length}
use Rattle.result.proofs.PlanLaws.{Making, plan_past, plan_made, plan_served}
use Rattle.plan.specs.Outcomes.{is_written, maker_of, at}
use Rattle.plan.proofs.SizeLaws.{made_size_lem}
use Rattle.result_writer.specs.RecordParts.{Laid}
use Rattle.result_writer.specs.Writing.{WritesPlan}
use Rattle.plan.specs.declared.Notes.{Notes}
use Rattle.plan.specs.Notes.{outcomes_in}

-- the record whose table record k is written with is k itself or one before it
maker_low : (o : Outcome) (k l : ℕ) → k < l → ((r : ℕ) → o ≡ Served r → r < k) → maker_of o k < l
maker_low (LeftOut why) k l h f = h
maker_low BadMapping k l h f = h
maker_low (Served r) k l h f = omega (arith, f r refl)
maker_low (Made n) k l h f = h

module _ (j : Job) (notes : Notes) (count : ℕ) (fs tocs togs : List ℕ) (p : WritesPlan j notes count fs tocs togs) where
  abbrev m : ℕ
  m = record_count j.source

  abbrev os : List Outcome
  os = outcomes_in m notes

  pub planned_again : (fs' tocs' togs' : List ℕ) → length fs' ≡ length fs → length tocs' ≡ length tocs → length togs' ≡ length togs → WritesPlan j notes count fs' tocs' togs'
  planned_again fs' tocs' togs' a b d = record {
    others = p.others;
    prepared = prepared_again j fs p.others tocs togs p.prepared fs' p.others tocs' togs' a refl b d;
    is = p.is;
    counts = p.counts;
    fronted = p.fronted;
    endings = p.endings;
  }

  pub ready_of : (k : ℕ) → k < m → Ready j k fs tocs togs
  ready_of k h = ready j fs p.others tocs togs p.prepared k h

  written_there : (k : ℕ) → is_written (at os k) ≡ true → k < m
  written_there k w =
      by_leb (k < m) m k
      (λ h. absurd (false-true (rw (p.is, plan_past j k h) at w)))
      (λ h. h)

  pub long : length os ≡ m
  long = rw p.is (length-plan j)

  pub laid : Laid j.source os count
  laid = record {
    counts = p.counts;
    here = λ k w. (ready_of k (written_there k w)).pairs_ready.placed;
    makers = λ k h. maker_low (at os k) k (length os) h (λ r e. (plan_served j k r (rw p.is at e)).earlier);
  }

  pub making_of : (k : ℕ) → is_made (at os k) ≡ true → Making j k (made_size (at os k))
  making_of k e = plan_made j k (made_size (at os k)) (ap (λ (row : List Outcome). at row k) (sym p.is) ∙ made_size_lem (at os k) e)

  -- each table is as long as its outcome says
  pub lengths : (k n : ℕ) → at os k ≡ Made n → n ≡ length (table_of j k)
  lengths k n e = made_length j k n (plan_made j k n (rw p.is at e)).is
