-- What is noted of the records so far is the list of outcomes so far.
use mathlib.Core.Path.{ap}
use native.Mathlib.Omega.{arith}
use borrow.Author.Rules.{rules}
use Rattle.plan.specs.declared.Notes.{Notes}
use Rattle.plan.proofs.PlanLaws.{planning, planning_on, planning_rooms, planning_done, planning_small, planning_ended}
use Rattle.plan_walk.proofs.plan.Goals as goal

pub loop-k-init : goal.loop-k-init
loop-k-init c = (search planning, search rules)

pub outcome_of-outcome-requires : goal.outcome_of-outcome-requires
outcome_of-outcome-requires c = record {
  earlier = search planning;
  ready = search planning;
  notebook = search planning;
  covered_room = planning_rooms _ _ _ _ _ _ _ _ c.loop-k.invariant.0 (omega arith);
}

pub loop-k-preserved : goal.loop-k-preserved
loop-k-preserved c = let l = c.loop-k.invariant.0 in
    let e = c.outcome_of-outcome.ensures in
    let q = c.note.ensures in
    (planning_on _ _ _ _ _ _ _ _ l _ _ _ _ _ _ _ (omega arith) e.value.0 e.value.1 (search rules) (search rules) (search rules) (search rules) e.leaves e.stays (ap (λ (n : Notes). n.outcomes) q) (ap (λ (n : Notes). n.fronts) q) (ap (λ (n : Notes). n.ends) q), search rules)

pub returns-clause-planned : goal.returns-clause-planned
returns-clause-planned c = let l = c.loop-k.invariant.0 in
    (planning_done _ _ _ _ _ _ _ _ l (omega arith), planning_small _ _ _ _ _ _ _ _ l (omega arith))

pub returns-clause-endings : goal.returns-clause-endings
returns-clause-endings c = planning_ended _ _ _ _ _ _ _ _ c.loop-k.invariant.0 (omega arith)
