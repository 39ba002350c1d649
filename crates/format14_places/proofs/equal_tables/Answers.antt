-- Tables of unequal length or checksum are not equal.
use mathlib.Core.Path.{◌∙◌}
use Rattle.format14.specs.Lent.{lent_job14}
use Rattle.format14_places.specs.Measuring.{none}
use Rattle.format14_places.proofs.EqualLaws.{unlike, alike_there}
use Rattle.format14_places.proofs.equal_tables.Goals as goal

pub same_table-requires-clause-both_there : goal.same_table-requires-clause-both_there
same_table-requires-clause-both_there c = let found = c.requires.measured.each in
    alike_there (lent_job14 c.args.job.now) _ _ _ _ c.args.job.now.readable (found _ none c.requires.numbered.below) (found _ none c.requires.numbered_2.below) c.requires.there _ c.alike.ensures c.if-alike.true

pub returns-else-alike : goal.returns-else-alike
returns-else-alike c = let found = c.requires.measured.each in
    c.if-alike.false ∙ unlike (lent_job14 c.args.job.now) _ _ _ _ c.args.job.now.readable (found _ none c.requires.numbered.below) (found _ none c.requires.numbered_2.below) c.requires.there _ c.alike.ensures c.if-alike.false
