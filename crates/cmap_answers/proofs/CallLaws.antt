-- Demand 3 of the call: what an acceptance leaves in the first places of the output, both heads answer as the job lists.
use Rattle.std.specs.Prelude.{Ok}
use Prim.Native.Nat.{ℕ, ◌<◌}
use mathlib.Core.Path.{◌≡◌, ap, ◌∙◌}
use mathlib.Core.List.{List}
use native.Mathlib.Omega.{arith}
use lib.ListN.{length, take}
use Rattle.laws.specs.Search.{first}
use Rattle.laws.proofs.ChoiceLaws.{both_left}
use Rattle.laws.proofs.FirstLaws.{first_holds}
use Rattle.number.specs.BigEndian.{Bytes}
use Rattle.source_records.specs.Records.{leads_to_format}
use Rattle.plan_listing.specs.Job.{Job}
use Rattle.heads.specs.Heads.{old_head, new_head}
use Rattle.plan.specs.Outcomes.{is_made}
use Rattle.plan.specs.Plan.{plan}
use Rattle.result.specs.Result.{makes, new_offset}
use Rattle.plan.specs.Outcomes.{at}
use Rattle.result.proofs.PlacesLaws.{made_written}
use Rattle.cmap_promise.specs.declared.Written.{Written}
use Rattle.cmap_promise.specs.declared.FateKind.TheVariants.{WrittenAt}
use Rattle.cmap_promise.specs.Cmap.{answer_of, output_of}
use Rattle.cmap_promise.specs.Fates.{fate_of}
use Rattle.cmap_promise.proofs.PromiseLaws.{written_passed, written_front}
use Rattle.cmap_promise.proofs.ReadBackLaws.{written_fate}
use Rattle.cmap_answers.specs.Answers.{old_answer, new_answer}
use Rattle.cmap_answers.proofs.AnswersLaws.{maker_self}
use Rattle.cmap_answers.proofs.JobLaws.{old_gives, new_gives}

module _ (j : Job) (bytes : Bytes j.source) (out : List ℕ) (a : Written) (w : answer_of j (length out) ≡ Ok a) where
  -- what was written
  abbrev table : List ℕ
  table = take a.bytes (output_of j out)

  module _ (c : ℕ) where
    pub call_old : old_head table c ≡ old_answer j (plan j) c
    call_old = ap (λ (t : List ℕ). old_head t c) (written_front j out a w) ∙ old_gives j bytes (written_passed j out a w) c

    pub call_new : new_head table c ≡ new_answer j (plan j) c
    call_new = ap (λ (t : List ℕ). new_head t c) (written_front j out a w) ∙ new_gives j bytes (written_passed j out a w) c

  -- the record that decides is one that the fates call written, at the offset of its own table
  pub decider_fate : (format r : ℕ) → first (makes j (plan j) format) (length (plan j)) 0 ≡ r → r < length (plan j) → (fate_of j r).kind ≡ WrittenAt (new_offset j (plan j) r)
  decider_fate format r e h =
      let os = plan j in
      let m = rw e at (first_holds (makes j os format) (length os) 0 (omega (arith, e, h))) in
      let made = both_left (is_made (at os r)) (leads_to_format format j.source r) m in
      written_fate j bytes (written_passed j out a w) r (made_written (at os r) made)
      ∙ ap (λ (k : ℕ). WrittenAt (new_offset j os k)) (maker_self (at os r) r made)
