-- The answer to a job, and what the call leaves in the output (docs/RULES.md, "Numbers of refusal").
use Rattle.std.specs.Prelude.{ℕ, List, [], ◌∷◌, ◌++◌, ltb, eqb, length, Result, Ok, Err}
use Rattle.laws.specs.Choice.{pick}
use Rattle.laws.specs.Lists.{laid}
use Rattle.plan_listing.specs.Job.{Job}
use Rattle.plan.specs.Plan.{plan}
use Rattle.result.specs.Result.{written_count, result_of}
use Rattle.result.specs.Refusal.{refusal_number, refusal_numbered, Condition, first_of, refusals, refusal_of}
use Rattle.cmap_promise.specs.declared.Written.{Written}
use Rattle.cmap_promise.specs.declared.Unwritten.{Unwritten}
use Rattle.cmap_promise.specs.declared.Unwritten.TheVariants.{Refused, NoRoom}

abbrev pub Answer : Type 0
Answer = Result Written Unwritten

-- ---- an answer is number, length, records written

abbrev pub number_of : Answer → ℕ
number_of (Ok written) = 0
number_of (Err (Refused refusal)) = refusal_number refusal
number_of (Err (NoRoom needed)) = 10

-- 10 names the length that is needed
abbrev pub length_of : Answer → ℕ
length_of (Ok written) = written.bytes
length_of (Err (Refused refusal)) = 0
length_of (Err (NoRoom needed)) = needed

abbrev pub records_of : Answer → ℕ
records_of (Ok written) = written.records
records_of (Err unwritten) = 0

-- ---- the call

abbrev pub result : Job → List ℕ
result j = result_of j (plan j)

-- refused with 1 to 9; no room for the whole result; written
unfoldable pub answer_of : Job → ℕ → Answer
answer_of j room =
    pick (eqb (refusal_of j) 0)
    (pick (ltb room (length (result j))) (Err (NoRoom (length (result j)))) (Ok (record { bytes = length (result j); records = written_count (plan j) })))
    (Err (Refused (refusal_numbered (refusal_of j))))

-- a refusal writes nothing; an acceptance leaves the result, and then the rest as it was
abbrev pub leaves : Answer → List ℕ → List ℕ → List ℕ
leaves (Ok written) new out = laid new out
leaves (Err unwritten) new out = out

unfoldable pub output_of : Job → List ℕ → List ℕ
output_of j out = leaves (answer_of j (length out)) (result j) out

-- ---- the numbers in their order

-- 10: the whole result is longer than the output
abbrev pub refusals_in : Job → ℕ → List Condition
refusals_in j room = refusals j ++ ((10, ltb room (length (result j))) ∷ [])

-- the first that holds, with room for so many bytes; 0 is an acceptance
unfoldable pub number_in : Job → ℕ → ℕ
number_in j room = first_of (refusals_in j room)
