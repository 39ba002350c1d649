-- Each answer has its own reply.
use mathlib.Core.Path.{◌≡◌}
use Rattle.cmap_promise.specs.declared.Unwritten.TheVariants.{Refused, NoRoom}
use Rattle.job_output.proofs.AnsweredLaws.{reply_written, reply_refused, reply_no_room}
use Rattle.job_output.proofs.reply_of.Goals as goal

pub returns-in-Ok : goal.returns-in-Ok
returns-in-Ok c = search reply_written

pub returns-in-Err-Refused : goal.returns-in-Err-Refused
returns-in-Err-Refused c =
    let k = c.in-Err-Refused in
    let why : k.field-0 ≡ Refused k.refusal = rw k.is at k.field-0-is in
    search reply_refused

pub returns-in-Err-NoRoom : goal.returns-in-Err-NoRoom
returns-in-Err-NoRoom c =
    let k = c.in-Err-NoRoom in
    let why : k.field-0 ≡ NoRoom k.field-0-0 = rw k.is at k.field-0-is in
    search reply_no_room
