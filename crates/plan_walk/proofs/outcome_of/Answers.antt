use native.Mathlib.Omega.{arith}
use Rattle.plan.proofs.OutcomeLaws.{outcome_rules}
use Rattle.plan.proofs.NotesLaws.{staying}
use borrow.Author.Rules.{rules}
use Rattle.plan_walk.proofs.outcome_of.Goals as goal

pub retained_outcome-requires-clause-k_retained : goal.retained_outcome-requires-clause-k_retained
retained_outcome-requires-clause-k_retained c = search outcome_rules

pub returns-then-retain_encoding_record_for_subset : goal.returns-then-retain_encoding_record_for_subset
returns-then-retain_encoding_record_for_subset c = record { value = (search outcome_rules, search rules); leaves = search rules; stays = search rules }

pub returns : goal.returns
returns c = record { value = (search outcome_rules, record { below = omega arith }); leaves = search staying; stays = search staying }
