-- Record after record, as the definition goes.
use Rattle.laws.proofs.ChoiceLaws.{choices}
use Rattle.job_input.specs.Job.{located}
use Rattle.job_input.proofs.locate.Goals as goal

pub returns-in_err-source : goal.returns-in_err-source
unfolding located
returns-in_err-source c = rw (c.from_residual.ensures, ← c.in_err-source.ensures)

pub returns-in_err-pairs : goal.returns-in_err-pairs
unfolding located
returns-in_err-pairs c = rw (c.from_residual-in_err-pairs.ensures, ← c.in_ok-source.ensures, ← c.in_err-pairs.ensures)

pub returns-in_err-kept : goal.returns-in_err-kept
unfolding located
returns-in_err-kept c =
    rw (c.from_residual-in_err-kept.ensures, ← c.in_ok-source.ensures, ← c.in_ok-pairs.ensures, ← c.in_err-kept.ensures)

pub returns-in_err-map : goal.returns-in_err-map
unfolding located
returns-in_err-map c =
    rw (c.from_residual-in_err-map.ensures, ← c.in_ok-source.ensures, ← c.in_ok-pairs.ensures, ← c.in_ok-kept.ensures, ← c.in_err-map.ensures)

pub returns-in_err-requested : goal.returns-in_err-requested
unfolding located
returns-in_err-requested c =
    rw (c.from_residual-in_err-requested.ensures, ← c.in_ok-source.ensures, ← c.in_ok-pairs.ensures, ← c.in_ok-kept.ensures, ← c.in_ok-map.ensures, ← c.in_err-requested.ensures)

pub returns-then-requested-s : goal.returns-then-requested-s
unfolding located
returns-then-requested-s c =
    rw (← c.in_ok-source.ensures, ← c.in_ok-pairs.ensures, ← c.in_ok-kept.ensures, ← c.in_ok-map.ensures, ← c.in_ok-requested.ensures) (search choices)

pub returns : goal.returns
unfolding located
returns c =
    rw (← c.in_ok-source.ensures, ← c.in_ok-pairs.ensures, ← c.in_ok-kept.ensures, ← c.in_ok-map.ensures, ← c.in_ok-requested.ensures) (search choices)
