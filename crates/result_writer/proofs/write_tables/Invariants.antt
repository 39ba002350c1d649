use Rattle.plan_listing.specs.Lent.{lent_job}
use Rattle.result_writer.proofs.TablesLaws.{Tabling}
use Rattle.result_writer.proofs.write_tables.Given as goal

abbrev pub invariant-loop-k : goal.invariant-loop-k
invariant-loop-k l = Tabling (lent_job l.job) l.notes l.count l.initial.out l.initial.flags l.initial.tocodes l.initial.toglyphs l.out l.flags l.tocodes l.toglyphs l.place l.k
