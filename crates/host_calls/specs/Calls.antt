-- The calls over the list of pair records (docs/RULES.md, "What is lent").
use Rattle.std.specs.Prelude.{ℕ, List, Bool, length, Err}
use Rattle.laws.specs.Choice.{pick}
use Rattle.host_pairs.specs.Sizes.{sizes_broken}
use Rattle.plan_listing.specs.Job.{Job, job}
use Rattle.host_pairs.specs.declared.PairRecord.{PairRecord}
use Rattle.host_pairs.specs.Pairs.{codes_of, glyphs_of}
use Rattle.result.specs.declared.Refusal.TheVariants.{BadSizes}
use Rattle.cmap_promise.specs.declared.Unwritten.TheVariants.{Refused}
use Rattle.cmap_promise.specs.declared.Fate.{Fate}
use Rattle.cmap_promise.specs.declared.FateKind.TheVariants.{Refused as FateRefused}
use Rattle.laws.specs.Lists.{laid}
use Rattle.cmap_promise.specs.Cmap.{Answer, answer_of, output_of}
use Rattle.cmap_promise.specs.Fates.{fate_of, no_fate}

module _ (source : List ℕ) (pairs : List PairRecord) (codes glyphs kept new_glyphs requested : List ℕ) where
  -- 1
  abbrev pub broken : Bool
  broken = sizes_broken (length source) (length pairs) (length codes) (length glyphs) (length kept) (length new_glyphs) (length requested)

  abbrev pub job_of : Job
  job_of = job source (codes_of pairs) (glyphs_of pairs) kept new_glyphs requested

  abbrev pub subset_of : ℕ → Answer
  subset_of room = pick broken (Err (Refused BadSizes)) (answer_of job_of room)

  abbrev pub record_fate_of : ℕ → Fate
  record_fate_of k = pick broken (no_fate (FateRefused BadSizes)) (fate_of job_of k)

  -- 1 leaves the work room; any other answer has the code points and the glyphs in its first places
  abbrev pub codes_after : List ℕ
  codes_after = pick broken codes (laid (codes_of pairs) codes)

  abbrev pub glyphs_after : List ℕ
  glyphs_after = pick broken glyphs (laid (glyphs_of pairs) glyphs)

  abbrev pub out_after : List ℕ → List ℕ
  out_after out = pick broken out (output_of job_of out)
