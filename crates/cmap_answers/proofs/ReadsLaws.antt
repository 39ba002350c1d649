-- The tables of a plan read back: each has its record's format, and a lookup finds the listed glyphs.
use Prim.Native.Nat.{◌≤◌}
use borrow.Author.Tests.{eqb-true}
use Rattle.number.specs.Limits.{records_max}
use Rattle.source_header.specs.Header.{record_count}
use Rattle.source.specs.Kind.{format_of}
use Rattle.source_records.specs.Records.{leads_to}
use Rattle.plan_listing.specs.Job.{Job}
use Rattle.heads_lookup.specs.Lookup.{lookup4, lookup12}
use Rattle.plan.specs.Sizes.{made_size}
use Rattle.plan.specs.Plan.{plan}
use Rattle.result.specs.Lent.{Lent}
use Rattle.result.proofs.TablesLaws.{made_format, made_finds4, made_finds12}
use Rattle.plan.specs.Outcomes.{at}
use Rattle.result.proofs.SoundLaws.{making as making_of}
use Rattle.cmap_answers.proofs.AnswersLaws.{Reads}

module _ (j : Job) (l : Lent j) (few : record_count j.source ≤ records_max) where
  pub plan_reads4 : Reads 4 lookup4 j (plan j)
  plan_reads4 = record {
    alike = λ k xs place m st. made_format l k (made_size (at (plan j) k)) (making_of j l few k m).is st;
    gives = λ k xs place m st f c. made_finds4 l k (made_size (at (plan j) k)) (making_of j l few k m).is st (eqb-true (format_of (leads_to j.source k)) 4 f) c;
  }

  pub plan_reads12 : Reads 12 lookup12 j (plan j)
  plan_reads12 = record {
    alike = λ k xs place m st. made_format l k (made_size (at (plan j) k)) (making_of j l few k m).is st;
    gives = λ k xs place m st f c. made_finds12 l k (made_size (at (plan j) k)) (making_of j l few k m).is st (eqb-true (format_of (leads_to j.source k)) 12 f) c;
  }
