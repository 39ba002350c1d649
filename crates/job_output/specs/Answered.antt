-- What the program writes for the bytes of a job (docs/RULES.md, "The job program").
use Rattle.std.specs.Prelude.{ℕ, List, Option, Some, None, Result, Ok, Err}
use Rattle.plan_listing.specs.Job.{Job}
use Rattle.job_output.specs.Output.{accepted, refused}
use Rattle.result.specs.Refusal.{refusal_number}
use Rattle.cmap_promise.specs.declared.Unwritten.TheVariants.{Refused, NoRoom}
use Rattle.cmap_promise.specs.Cmap.{Answer, result, answer_of, output_of}

-- the work buffer's bytes
abbrev pub room : ℕ
room = 32768

-- OK and the result, or NO and the number; 10 is told as the number alone
unfoldable pub reply_bytes : Answer → List ℕ → List ℕ
reply_bytes (Ok written) bytes = accepted bytes
reply_bytes (Err (Refused refusal)) bytes = refused (refusal_number refusal)
reply_bytes (Err (NoRoom needed)) bytes = refused 10

-- of a job, or of damaged bytes: 12 comes before all other numbers
unfoldable pub answered : Option Job → List ℕ
answered (Some j) = reply_bytes (answer_of j room) (result j)
answered None = refused 12

-- ---- the same in two parts: the reply, and what is left in the work buffer

unfoldable pub reply_of : Answer → Result ℕ ℕ
reply_of (Ok written) = Ok written.bytes
reply_of (Err (Refused refusal)) = Err (refusal_number refusal)
reply_of (Err (NoRoom needed)) = Err 10

unfoldable pub reply_to : Option Job → Result ℕ ℕ
reply_to (Some j) = reply_of (answer_of j room)
reply_to None = Err 12

unfoldable pub left_by : Option Job → List ℕ → List ℕ
left_by (Some j) buffer = output_of j buffer
left_by None buffer = buffer
