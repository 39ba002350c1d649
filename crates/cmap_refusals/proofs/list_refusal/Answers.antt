use Rattle.cmap_refusals.specs.Refusing.{list_refusal}
use Rattle.laws.proofs.ChoiceLaws.{cases}
use Rattle.cmap_refusals.proofs.list_refusal.Goals as goal

pub returns-then-bad_sizes : goal.returns-then-bad_sizes
unfolding list_refusal
returns-then-bad_sizes c = search cases

pub returns-then-bad_pairs : goal.returns-then-bad_pairs
unfolding list_refusal
returns-then-bad_pairs c = search cases

pub returns-then-bad_kept : goal.returns-then-bad_kept
unfolding list_refusal
returns-then-bad_kept c = search cases

pub returns-then-bad_requested : goal.returns-then-bad_requested
unfolding list_refusal
returns-then-bad_requested c = search cases

pub returns : goal.returns
unfolding list_refusal
returns c = search cases
