-- The sibling of a record: its test read off the code's answers, and the search for the first.
use Prim.Native.Nat.{ℕ}
use mathlib.Core.Path.{◌≡◌}
use mathlib.Core.List.{List}
use mathlib.Core.Bool.{Bool, true, false}
use lib.Dec.{eqb}
use Rattle.laws.proofs.SearchLaws.{Finding, looking_start, looks}
use Rattle.source_header.specs.Header.{record_count}
use Rattle.source.specs.declared.Kind.{Kind}
use Rattle.source.specs.declared.Kind.TheVariants.{Format4, Format12}
use Rattle.source_records.specs.Records.{leads_to, Counted}
use Rattle.source_records.proofs.RecordsLaws.{placed}
use Rattle.plan.specs.Sibling.{sibling_pair, language_of, speaks, is_sibling, first_sibling}

module _ (xs : List ℕ) (k i : ℕ) (t : Bool) where
  pub sibling_no : t ≡ sibling_pair xs k i → t ≡ false → t ≡ is_sibling xs k i
  unfolding is_sibling
  sibling_no q e = rw (← q, e)

  pub sibling_then : (a b : Kind) (wanted : ℕ) (r : Bool) → t ≡ sibling_pair xs k i → t ≡ true
      → a ≡ leads_to xs k → wanted ≡ language_of a → b ≡ leads_to xs i → r ≡ speaks wanted b → r ≡ is_sibling xs k i
  unfolding is_sibling
  sibling_then a b wanted r q e ha hw hb hr = rw (← q, e, ← ha, ← hw, ← hb) hr

pub ruleset sibling = (sibling_no, sibling_then)
