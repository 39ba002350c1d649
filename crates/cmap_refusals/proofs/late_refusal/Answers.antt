use Rattle.result.specs.Refusal.{late_refusal}
use Rattle.laws.proofs.ChoiceLaws.{cases}
use Rattle.cmap_refusals.proofs.late_refusal.Goals as goal

pub returns-then-names_missing : goal.returns-then-names_missing
unfolding late_refusal
returns-then-names_missing c = search cases

pub returns-then-lacks_plain : goal.returns-then-lacks_plain
unfolding late_refusal
returns-then-lacks_plain c = search cases

pub returns : goal.returns
unfolding late_refusal
returns c = search cases
