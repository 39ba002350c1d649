-- A job that refusals 1 to 7 refuse has no other fate.
use Rattle.std.specs.Prelude.{Result, Err}
use Prim.Native.Nat.{ℕ}
use mathlib.Core.Path.{◌≡◌}
use native.Mathlib.Omega.{arith}
use borrow.Author.Tests.{ne_eqb}
use Rattle.plan_listing.specs.Job.{Job}
use Rattle.result.specs.declared.Refusal.{Refusal}
use Rattle.result.specs.Refusal.{refusal_number, refusal_told, early_refusal}
use Rattle.result.proofs.RefusalLaws.{number_above_zero, numbered_itself, told_no_case}
use Rattle.cmap_promise.specs.declared.Fate.{Fate}
use Rattle.cmap_promise.specs.declared.FateKind.TheVariants.{Refused}
use Rattle.cmap_promise.specs.Fates.{no_fate, fate_of}
use Rattle.cmap_concluding.specs.Concluding.{Passing}
use Rattle.cmap_concluding.proofs.AnswerLaws.{first_is}

pub fate_passing : (j : Job) (early : Result (Unit {0}) Refusal) → refusal_told early ≡ early_refusal j → ((refusal : Refusal) → early ≡ Err refusal → ⊥) → Passing j
fate_passing j early e h = record { passed = told_no_case early (early_refusal j) e h }

pub fate_early : (j : Job) (k : ℕ) (early : Result (Unit {0}) Refusal) (refusal : Refusal) (r : Fate) → refusal_told early ≡ early_refusal j → early ≡ Err refusal → r ≡ no_fate (Refused refusal) → r ≡ fate_of j k
unfolding fate_of
fate_early j k early refusal r e q w =
    let h = number_above_zero refusal in
    rw (← first_is j early e refusal q, ne_eqb (refusal_number refusal) 0 (λ z. omega (arith, h, z)), numbered_itself refusal) w
