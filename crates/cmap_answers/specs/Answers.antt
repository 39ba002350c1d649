-- What the heads are to give of a job's result, told by the job alone (docs/RULES.md, "Heads", "Records").
use Rattle.std.specs.Prelude.{ℕ, List, length, Result, Ok, Err}
use Rattle.laws.specs.Choice.{if_lt}
use Rattle.laws.specs.Listed.{listed_glyph}
use Rattle.laws.specs.Search.{first}
use Rattle.plan_listing.specs.Job.{Job}
use Rattle.heads.specs.declared.HeadRefusal.{HeadRefusal}
use Rattle.heads.specs.declared.HeadRefusal.TheVariants.{NothingReadable}
use Rattle.plan.specs.declared.Outcome.{Outcome}
use Rattle.plan.specs.Fresh.{listed_of}
use Rattle.result.specs.Result.{makes}

-- the first record that made a table of that format decides: c's glyph among the listed pairs that its subtable maps, 0 where there is none
unfoldable pub printed_by : ℕ → Job → List Outcome → ℕ → Result ℕ HeadRefusal → Result ℕ HeadRefusal
printed_by format j os c other =
    let r = first (makes j os format) (length os) 0 in
    if_lt r (length os) (Ok (listed_glyph (listed_of j r) c)) other

-- old: by format 4; 11 where no record made one
abbrev pub old_answer : Job → List Outcome → ℕ → Result ℕ HeadRefusal
old_answer j os c = printed_by 4 j os c (Err NothingReadable)

-- new: by format 12; as old where no record made one
abbrev pub new_answer : Job → List Outcome → ℕ → Result ℕ HeadRefusal
new_answer j os c = printed_by 12 j os c (old_answer j os c)
