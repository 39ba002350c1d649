-- Whether an earlier record tells of a record, read off the code's answers, and the searches for the first that does.
use Prim.Native.Nat.{ℕ, ◌<◌}
use mathlib.Core.Path.{◌≡◌}
use mathlib.Core.List.{List}
use mathlib.Core.Bool.{Bool, true, false}
use lib.Dec.{eqb}
use lib.ListN.{get_or, take}
use Rattle.laws.proofs.SearchLaws.{Finding, looking_start, looks}
use Rattle.source_header.specs.declared.EncodingRecord.{EncodingRecord}
use Rattle.source_header.specs.Header.{platform_of, encoding_of, offset_of, record_of}
use Rattle.source_records.specs.Records.{is_pair}
use Rattle.plan.specs.Outcomes.{at}
use Rattle.plan.specs.declared.Outcome.{Outcome}
use Rattle.plan.proofs.NotedLaws.{at_taken}
use Rattle.plan.specs.Twins.{came_to_nothing, is_twin, twin, is_spent, spent}
use Rattle.plan.proofs.ServesLaws.{two}

module _ (xs : List ℕ) (k r : ℕ) (e : EncodingRecord) (t : Bool) (q : e ≡ record_of xs k) (p : t ≡ is_pair e.platform e.encoding xs r) where
  asked : t ≡ is_pair (platform_of xs k) (encoding_of xs k) xs r
  asked = rw q at p

  pub twin_no : t ≡ false → t ≡ is_twin xs k r
  unfolding is_twin
  twin_no f = rw (← asked, f)

  pub twin_then : (at : ℕ) → t ≡ true → at ≡ offset_of xs r → eqb at e.offset ≡ is_twin xs k r
  unfolding is_twin
  twin_then at f h = rw (← asked, f, h, q)

module _ (xs : List ℕ) (os : List Outcome) (k r : ℕ) (o : Outcome) (t : Bool) (told : o ≡ at os r) (before : r < k) (q : t ≡ came_to_nothing o) where
  nothing : t ≡ came_to_nothing (at (take k os) r)
  nothing = rw (at_taken k r os before, ← told) q

  pub spent_no : t ≡ false → t ≡ is_spent xs (take k os) k r
  unfolding is_spent
  spent_no e = rw (← nothing, e)

  pub spent_then : (a b : ℕ) → t ≡ true → a ≡ offset_of xs r → b ≡ offset_of xs k → eqb a b ≡ is_spent xs (take k os) k r
  unfolding is_spent
  spent_then a b e f g = rw (← nothing, e, f, g)

pub ruleset twin_tests = (twin_no, twin_then, spent_no, spent_then)

pub twin_start : (xs : List ℕ) (k : ℕ) → Finding (is_twin xs k) k 0 (twin xs k)
unfolding twin
twin_start xs k = looking_start (is_twin xs k) k

pub spent_start : (xs : List ℕ) (os : List Outcome) (k : ℕ) → Finding (is_spent xs os k) k 0 (spent xs os k)
unfolding spent
spent_start xs os k = looking_start (is_spent xs os k) k

pub ruleset twin_search = (twin_start, spent_start, looks, two)
