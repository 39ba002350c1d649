use native.Mathlib.Omega.{arith}
use Rattle.plan.proofs.OutcomeLaws.{outcome_rules}
use Rattle.plan.proofs.TwinLaws.{twins}
use Rattle.plan.proofs.FreshLaws.{ready_again}
use Rattle.plan.proofs.NotesLaws.{staying, notebook_again}
use borrow.Author.Rules.{rules}
use Rattle.plan.specs.Notes.{outcomes_in}
use Rattle.plan_walk.proofs.retained_outcome.Goals as goal

pub is_dropped-requires-clause-tells : goal.is_dropped-requires-clause-tells
is_dropped-requires-clause-tells c = search twins

pub returns-then-is_dropped : goal.returns-then-is_dropped
returns-then-is_dropped c = record { value = (search outcome_rules, record { below = omega arith }); leaves = search staying; stays = search staying }

pub returns-then-r-k : goal.returns-then-r-k
unfolding outcomes_in
returns-then-r-k c = record { value = (search outcome_rules, record { below = omega arith }); leaves = search staying; stays = search staying }

pub unserved_outcome-requires : goal.unserved_outcome-requires
unserved_outcome-requires c = record { earlier = search rules; ready = search ready_again; notebook = search notebook_again }

pub returns : goal.returns
unfolding outcomes_in
returns c = record { value = (search outcome_rules, search rules); leaves = search rules; stays = search staying }
