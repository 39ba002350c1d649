-- Where no size is broken, the first places of the work room hold the job's two columns (docs/RULES.md, "What is lent").
use Prim.Native.Nat.{ℕ}
use mathlib.Core.Path.{◌≡◌}
use mathlib.Core.List.{List}
use mathlib.Core.Bool.{false}
use lib.ListN.{length, take, length-map}
use Rattle.plan_listing.specs.Job.{job}
use Rattle.host_pairs.specs.declared.PairRecord.{PairRecord}
use Rattle.host_pairs.specs.Pairs.{code, glyph, codes_of, glyphs_of}
use Rattle.host_pairs.proofs.LaidLaws.{laid_first}
use Rattle.host_calls.specs.Calls.{broken, job_of, codes_after, glyphs_after}

module _ (source : List ℕ) (pairs : List PairRecord) (codes glyphs kept new_glyphs requested : List ℕ) where
  pub job_in_room : broken source pairs codes glyphs kept new_glyphs requested ≡ false
      → job source (take (length pairs) (codes_after source pairs codes glyphs kept new_glyphs requested)) (take (length pairs) (glyphs_after source pairs codes glyphs kept new_glyphs requested)) kept new_glyphs requested
      ≡ job_of source pairs codes glyphs kept new_glyphs requested
  job_in_room e = rw (e, laid_first (length pairs) (codes_of pairs) codes (length-map pairs code), laid_first (length pairs) (glyphs_of pairs) glyphs (length-map pairs glyph))
