-- Inner: jobs and what they are taken apart into, a small one and the same with one thing wrong; a law computes them, and no promise names them.
use Rattle.std.specs.Prelude.{ℕ, List, [], ◌∷◌, ◌++◌, Option, Some, None}
use Rattle.plan_listing.specs.Job.{Job, job}

abbrev tb : List ℕ
tb = 0x54 ∷ 0x42 ∷ 0 ∷ 0 ∷ 0 ∷ 4 ∷ 0 ∷ 0 ∷ 0 ∷ 7 ∷ []

abbrev pr : List ℕ
pr = 0x50 ∷ 0x52 ∷ 0 ∷ 0 ∷ 0 ∷ 12 ∷ 0 ∷ 0 ∷ 0 ∷ 0x41 ∷ 0 ∷ 1 ∷ 0 ∷ 1 ∷ 0 ∷ 0x41 ∷ 1 ∷ 2 ∷ []

abbrev kp : List ℕ
kp = 0x4B ∷ 0x50 ∷ 0 ∷ 0 ∷ 0 ∷ 4 ∷ 0 ∷ 0 ∷ 0xFE ∷ 0 ∷ []

abbrev mp : List ℕ
mp = 0x4D ∷ 0x50 ∷ 0 ∷ 0 ∷ 0 ∷ 4 ∷ 0xFF ∷ 0xFF ∷ 0 ∷ 1 ∷ []

abbrev rq : List ℕ
rq = 0x52 ∷ 0x51 ∷ 0 ∷ 0 ∷ 0 ∷ 0 ∷ []

-- no entries, and a byte that is no entry
abbrev no_entries : List ℕ
no_entries = 0x4D ∷ 0x50 ∷ 0 ∷ 0 ∷ 0 ∷ 0 ∷ []

abbrev half_entry : List ℕ
half_entry = 0x4D ∷ 0x50 ∷ 0 ∷ 0 ∷ 0 ∷ 1 ∷ 0 ∷ []

abbrev with_map : List ℕ → Option Job
with_map entries = Some (job (0 ∷ 0 ∷ 0 ∷ 7 ∷ []) (0x41 ∷ 0x10041 ∷ []) (1 ∷ 258 ∷ []) (0xFE00 ∷ []) entries [])

pub record JobCase : Type 0 where
  pub bytes : List ℕ
  pub parsed : Option Job

abbrev case : List ℕ → Option Job → JobCase
case xs p = record { bytes = xs; parsed = p }

abbrev pub job_cases : List JobCase
job_cases =
    case (tb ++ (pr ++ (kp ++ (mp ++ rq)))) (with_map (65535 ∷ 1 ∷ []))
    ∷ case (tb ++ (pr ++ (kp ++ (no_entries ++ rq)))) (with_map [])
    ∷ case (tb ++ (pr ++ (kp ++ (half_entry ++ rq)))) None
    ∷ case (tb ++ (pr ++ (mp ++ (kp ++ rq)))) None
    ∷ case (tb ++ (pr ++ (kp ++ (mp ++ (rq ++ (0 ∷ [])))))) None
    ∷ case (tb ++ (pr ++ (kp ++ mp))) None
    ∷ case [] None
    ∷ []
