-- Whether a table serves a record, read off the code's answers, and the search for the first that does.
use Prim.Native.Nat.{ℕ, ◌<◌}
use mathlib.Core.Path.{◌≡◌}
use mathlib.Core.List.{List}
use mathlib.Core.Bool.{Bool, true, false}
use native.Mathlib.Omega.{arith}
use lib.ListN.{get_or, take}
use Rattle.laws.proofs.SearchLaws.{Finding, looking_start, looks}
use Rattle.source.specs.declared.Kind.{Kind}
use Rattle.source.specs.Kind.{format_of}
use Rattle.source_records.specs.Records.{leads_to, leads_to_format, Placed}
use Rattle.plan.specs.declared.Outcome.{Outcome}
use Rattle.plan.specs.Outcomes.{at, is_made, serves, server}
use Rattle.plan.specs.Sizes.{BothPlaced}
use Rattle.plan.proofs.NotedLaws.{at_taken}

module _ (xs : List ℕ) (os : List Outcome) (k r : ℕ) (o : Outcome) (made : Bool) (told : o ≡ at os r) (before : r < k) (q : made ≡ is_made o) where
  asked : made ≡ is_made (at (take k os) r)
  asked = rw (at_taken k r os before, ← told) q

  pub serves_no : made ≡ false → made ≡ serves xs (take k os) k r
  unfolding serves
  serves_no e = rw (← asked, e)

  pub serves_then : (kind : Kind) (f : ℕ) (t : Bool) → made ≡ true → kind ≡ leads_to xs k → f ≡ format_of kind → t ≡ leads_to_format f xs r
      → t ≡ serves xs (take k os) k r
  unfolding serves
  serves_then kind f t e a b h = rw (← asked, e, ← a, ← b) h

pub ruleset serving = (serves_no, serves_then)

-- the search over the earlier records of m
module _ (xs : List ℕ) (os : List Outcome) (k : ℕ) where
  pub server_start : Finding (serves xs os k) k 0 (server xs os k)
  unfolding server
  server_start = looking_start (serves xs os k) k

  pub two : (r : ℕ) → Placed xs k → k < 64 → r < k → BothPlaced xs k r
  two r p b h = record { this = p; other = record { inside = omega (arith, p.inside) }; inside = omega arith }

pub ruleset server_search = (server_start, looks, two)
