use Rattle.cmap_refusals.proofs.LateLaws.{missing_told}
use Rattle.cmap_refusals.proofs.names_missing.Goals as goal

pub returns : goal.returns
returns c = missing_told c.args.outcomes.now _ c.some_bad.ensures
