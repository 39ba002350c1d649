-- Inner: the job for which a subtable and lists are lent.
use Rattle.format14.specs.declared.Lent14.{Lent14}
use Rattle.format14.specs.Selectors.{Job14, job14}

abbrev pub lent_job14 : Lent14 → Job14
lent_job14 l = job14 l.source.now l.at l.len l.kept.now l.map.now l.requested.now
