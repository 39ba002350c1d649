-- Inner: the bytes of a job, the grammar that taking apart undoes; laws are about it, and no promise names it.
use Rattle.std.specs.Prelude.{ℕ, ◌≤◌, ◌<◌, ◌^◌, ◌≡◌, List, [], ◌∷◌, ◌++◌, length}
use Rattle.laws.specs.Linked.{Each}
use Rattle.number.specs.BigEndian.{enc}
use Rattle.number.specs.Row.{encs}
use Rattle.plan_listing.specs.Job.{Job}
use Rattle.job_input.specs.JobLimits.{job_source_max, job_pairs_max, job_kept_max, job_map_max, job_requested_max}

-- a mark, the payload's length, the payload
abbrev pub framed_record : ℕ → List ℕ → List ℕ
framed_record m payload = enc 2 m ++ (enc 4 (length payload) ++ payload)

-- the code point first
unfoldable pub pair_bytes : List ℕ → List ℕ → List ℕ
pair_bytes [] gs = []
pair_bytes (c ∷ cs) [] = []
pair_bytes (c ∷ cs) (g ∷ gs) = enc 4 c ++ (enc 2 g ++ pair_bytes cs gs)

abbrev pub job_bytes : Job → List ℕ
job_bytes j =
    framed_record 0x5442 j.source
    ++ (framed_record 0x5052 (pair_bytes j.codes j.glyphs)
    ++ (framed_record 0x4B50 (encs 4 j.kept) ++ (framed_record 0x4D50 (encs 2 j.new_glyphs) ++ framed_record 0x5251 (encs 2 j.requested))))

abbrev pub Fit : ℕ → List ℕ → Type 0
Fit w vs = Each (λ v. v < 256 ^ w) vs

-- within the limits, as many glyphs as code points, and each number in its bytes
pub record Sized (j : Job) : Type 0 where
  pub source : length j.source ≤ job_source_max
  pub pairs : length j.codes ≤ job_pairs_max
  pub kept : length j.kept ≤ job_kept_max
  pub map : length j.new_glyphs ≤ job_map_max
  pub requested : length j.requested ≤ job_requested_max
  pub even : length j.glyphs ≡ length j.codes
  pub codes4 : Fit 4 j.codes
  pub glyphs2 : Fit 2 j.glyphs
  pub kept4 : Fit 4 j.kept
  pub map2 : Fit 2 j.new_glyphs
  pub requested2 : Fit 2 j.requested
