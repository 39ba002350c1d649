-- Inner: a job by the slices that hold it; no promise names it.
use Rattle.plan_listing.specs.Job.{Job, job}
use Rattle.plan_listing.specs.declared.Job.{Job as Lent}

abbrev pub lent_job : Lent → Job
lent_job l = job l.source.now l.codes.now l.glyphs.now l.kept.now l.map.now l.requested.now
