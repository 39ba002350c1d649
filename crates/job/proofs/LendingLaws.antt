-- The call is given the job's lists.
use Prim.Native.Nat.{ℕ, ◌+◌, ◌-◌}
use mathlib.Core.Path.{◌≡◌, ap, ◌∙◌}
use mathlib.Core.List.{List}
use native.Mathlib.Omega.{arith}
use lib.ListN.{length, take, drop}
use Rattle.laws.proofs.TakeLaws.{take_counts}
use Rattle.plan_listing.specs.Job.{Job, job}
use Rattle.job_input.specs.declared.Places.{Places}
use Rattle.job_input.specs.Job.{job_at}
use Rattle.job_lists.specs.declared.Lists.{Lists}
use Rattle.job_lists.specs.Lent.{AtFront, ListsHeld}
use Rattle.cmap_promise.specs.Cmap.{Answer, answer_of, output_of}

front_length : (n : ℕ) (buffer list : List ℕ) → AtFront n buffer list → n ≡ length (take n buffer)
front_length n buffer list f = take_counts n buffer f.room

module _ (xs : List ℕ) (p : Places) (l : Lists) (f : ListsHeld xs p l) where
  pub codes_length : p.pairs.count ≡ length (take p.pairs.count l.codes)
  codes_length = front_length _ _ _ f.codes

  pub glyphs_length : p.pairs.count ≡ length (take p.pairs.count l.glyphs)
  glyphs_length = front_length _ _ _ f.glyphs

  pub kept-length : p.kept.count ≡ length (take p.kept.count l.kept)
  kept-length = front_length _ _ _ f.kept

  pub map-length : p.map.count ≡ length (take p.map.count l.map)
  map-length = front_length _ _ _ f.map

  pub requested-length : p.requested.count ≡ length (take p.requested.count l.requested)
  requested-length = front_length _ _ _ f.requested

  source_length : p.source.at + p.source.count - p.source.at ≡ p.source.count
  source_length = omega arith

  abbrev given : Job
  given =
      job (take (p.source.at + p.source.count - p.source.at) (drop p.source.at xs)) (take p.pairs.count l.codes) (take p.pairs.count l.glyphs)
      (take p.kept.count l.kept) (take p.map.count l.map) (take p.requested.count l.requested)

  given_job : given ≡ job_at xs p
  given_job = rw (source_length, f.codes.is, f.glyphs.is, f.kept.is, f.map.is, f.requested.is)

  -- the call's answer and output are the job's
  pub given_answer : (a : Answer) (n : ℕ) → a ≡ answer_of given n → a ≡ answer_of (job_at xs p) n
  given_answer a n e = e ∙ ap (λ j. answer_of j n) given_job

  pub given_output : (out out' : List ℕ) → out' ≡ output_of given out → out' ≡ output_of (job_at xs p) out
  given_output out out' e = e ∙ ap (λ j. output_of j out) given_job

pub ruleset lending = (codes_length, glyphs_length, kept-length, map-length, requested-length, given_answer, given_output)
