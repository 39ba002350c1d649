-- The searches through the outcomes that ask for refusals 8 and 9.
use Prim.Native.Nat.{ℕ}
use mathlib.Core.Path.{◌≡◌, refl, ap, ◌∙◌}
use mathlib.Core.List.{List, [], ◌∷◌}
use mathlib.Core.Bool.{Bool, not}
use lib.ListN.{length}
use Rattle.std.specs.List.{list_any}
use Rattle.laws.specs.Select.{any_of}
use Rattle.laws.specs.Search.{some}
use Rattle.source_records.specs.Records.{Counted}
use Rattle.plan.specs.declared.Outcome.{Outcome}
use Rattle.plan.specs.declared.Outcome.TheVariants.{LeftOut, BadMapping, Served, Made}
use Rattle.plan.specs.Outcomes.{is_bad}
use Rattle.plan.specs.Plan.{refused8, made_plain, refused9}

-- ---- 8

missing_is : (os : List Outcome) → list_any is_bad os ≡ any_of is_bad os
unfolding any_of
missing_is [] = refl
missing_is (LeftOut why ∷ os) = missing_is os
missing_is (BadMapping ∷ os) = refl
missing_is (Served by ∷ os) = missing_is os
missing_is (Made n ∷ os) = missing_is os

pub missing_told : (os : List Outcome) (r : Bool) → r ≡ list_any is_bad os → r ≡ refused8 os
unfolding refused8
missing_told os r e = e ∙ missing_is os

-- ---- 9

pub lacks_told : (xs : List ℕ) (os : List Outcome) (r : Bool) → Counted xs (length os) → r ≡ some (made_plain xs os) (length os) 0 → not r ≡ refused9 xs os
unfolding refused9
lacks_told xs os r c q = ap not (rw c.is at q)
