use Rattle.cmap_refusals.specs.Refusing.{format_refusal}
use Rattle.laws.proofs.ChoiceLaws.{cases}
use Rattle.cmap_refusals.proofs.format_refusal.Goals as goal

pub returns-then-lacks_bmp : goal.returns-then-lacks_bmp
unfolding format_refusal
returns-then-lacks_bmp c = search cases

pub returns-then-lacks_full : goal.returns-then-lacks_full
unfolding format_refusal
returns-then-lacks_full c = search cases

pub returns : goal.returns
unfolding format_refusal
returns c = search cases
