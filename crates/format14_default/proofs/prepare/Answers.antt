-- The two parts are the callees' own.
use Rattle.format14_default.proofs.prepare.Goals as goal

pub returns-clause-value : goal.returns-clause-value
returns-clause-value c = cc
