-- The number of an answer: that of the first refusal, and 10 alone where only the room is short.
use Prim.Native.Nat.{ℕ, ◌<◌}
use mathlib.Core.Path.{◌≡◌, refl}
use mathlib.Core.List.{List, [], ◌∷◌}
use native.Mathlib.Omega.{arith}
use lib.Dec.{ltb}
use lib.ListN.{length}
use Rattle.laws.specs.Choice.{pick}
use Rattle.laws.specs.Linked.{Each}
use Rattle.laws.proofs.ChoiceLaws.{by_pick}
use Rattle.plan_listing.specs.Job.{Job}
use Rattle.result.specs.Refusal.{Condition, first_of, refusals, refusal_of, rises}
use Rattle.result.proofs.RefusalLaws.{first_append, first_stays}
use Rattle.cmap_promise.specs.Cmap.{result, number_in}

abbrev ten : Job → ℕ → List Condition
ten j room = (10, ltb room (length (result j))) ∷ []

pub number_refused : (j : Job) (room : ℕ) → 0 < refusal_of j → number_in j room ≡ refusal_of j
unfolding number_in refusal_of
number_refused j room h = first_stays (refusals j) (ten j room) h

pub number_passed : (j : Job) (room : ℕ) → refusal_of j ≡ 0 → number_in j room ≡ pick (ltb room (length (result j))) 10 0
unfolding number_in refusal_of rises
number_passed j room e = first_append (refusals j) (ten j room) refl e

first_low : (cs : List Condition) → Each (λ (c : Condition). c.0 < 10) cs → first_of cs < 10
first_low [] h = omega arith
first_low (c ∷ cs) h =
    by_pick (λ n. n < 10) c.1 c.0 (first_of cs) (λ e. h.0) (λ e. first_low cs h.1)

pub refusal_low : (j : Job) → refusal_of j < 10
unfolding refusal_of
refusal_low j =
    first_low (refusals j)
    (omega arith, (omega arith, (omega arith, (omega arith, (omega arith, (omega arith, (omega arith, (omega arith, (omega arith, tt)))))))))
