-- The refusals of a job in their order (docs/RULES.md, "Numbers of refusal").
use Rattle.std.specs.Prelude.{ℕ, ◌-◌, List, [], ◌∷◌, ◌++◌, Bool, true, ltb, length, get_or, Result, Ok, Err}
use Rattle.laws.specs.Choice.{pick, both}
use Rattle.laws.specs.Select.{any_of}
use Rattle.source_header.specs.Header.{refused5}
use Rattle.source_records.specs.Records.{refused6, refused7}
use Rattle.lists_checks.specs.Checks.{bad_sizes, bad_pairs, bad_kept, bad_requested}
use Rattle.plan_listing.specs.Job.{Job, glyph_count}
use Rattle.plan.specs.declared.Outcome.{Outcome}
use Rattle.plan.specs.Plan.{plan, refused8, refused9}
use Rattle.result.specs.declared.Refusal.{Refusal}
use Rattle.result.specs.declared.Refusal.TheVariants.{BadSizes, BadPairs, BadKept, BadRequested, BadHeader, LacksBmp, LacksFull, NamesMissing, LacksPlain}

-- ---- numbers

-- the number of each
abbrev pub refusal_number : Refusal → ℕ
refusal_number BadSizes = 1
refusal_number BadPairs = 2
refusal_number BadKept = 3
refusal_number BadRequested = 4
refusal_number BadHeader = 5
refusal_number LacksBmp = 6
refusal_number LacksFull = 7
refusal_number NamesMissing = 8
refusal_number LacksPlain = 9

-- and 0 where there is none
abbrev pub refusal_told : Result (Unit {0}) Refusal → ℕ
refusal_told (Ok none) = 0
refusal_told (Err refusal) = refusal_number refusal

-- the refusal of a number from 1 to 9
abbrev pub refusal_numbered : ℕ → Refusal
refusal_numbered n =
    get_or (BadSizes ∷ BadPairs ∷ BadKept ∷ BadRequested ∷ BadHeader ∷ LacksBmp ∷ LacksFull ∷ NamesMissing ∷ LacksPlain ∷ []) (n - 1) LacksPlain

-- ---- the order

-- a number of refusal and its condition
abbrev pub Condition : Type 0
Condition = ℕ × Bool

-- the first whose condition holds; 0 where none does
abbrev pub first_of : List Condition → ℕ
first_of [] = 0
first_of (c ∷ cs) = let r = first_of cs in pick c.1 c.0 r

-- of the lists
abbrev pub list_refusals : Job → List Condition
list_refusals j =
    (1, bad_sizes (length j.source) (length j.codes) (length j.glyphs) (length j.kept) (glyph_count j) (length j.requested))
    ∷ (2, bad_pairs j.codes j.glyphs)
    ∷ (3, bad_kept j.kept j.codes)
    ∷ (4, bad_requested (glyph_count j) j.requested)
    ∷ []

-- of the source's header and of the formats that its retained records lead to
abbrev pub source_refusals : List ℕ → List Condition
source_refusals xs = (5, refused5 xs) ∷ (6, refused6 xs) ∷ (7, refused7 xs) ∷ []

-- of what is lent
abbrev pub early_refusals : Job → List Condition
early_refusals j = list_refusals j ++ source_refusals j.source

-- of what becomes of the records
abbrev pub late_refusals : List ℕ → List Outcome → List Condition
late_refusals xs os = (8, refused8 os) ∷ (9, refused9 xs os) ∷ []

-- all but 10, which asks for the output too; that a host's work room is long enough, which 1 asks as well, is tested where it is lent
abbrev pub refusals : Job → List Condition
refusals j = early_refusals j ++ late_refusals j.source (plan j)

unfoldable pub refusal_of : Job → ℕ
refusal_of j = first_of (refusals j)

-- the same in two steps, before a plan is made and when it is there
unfoldable pub early_refusal : Job → ℕ
early_refusal j = first_of (early_refusals j)

unfoldable pub late_refusal : List ℕ → List Outcome → ℕ
late_refusal xs os = first_of (late_refusals xs os)

-- ---- what the order rests on

-- some condition holds
unfoldable pub held : List Condition → Bool
held cs = any_of (λ (c : Condition). c.1) cs

-- the numbers rise, from above m
unfoldable pub rises : ℕ → List Condition → Bool
rises m [] = true
rises m (c ∷ cs) = both (ltb m c.0) (rises c.0 cs)
