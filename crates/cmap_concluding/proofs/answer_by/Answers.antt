use native.Mathlib.Omega.{arith}
use mathlib.Core.Path.{◌≡◌}
use Rattle.std.specs.Prelude.{Ok, Err}
use Rattle.std.proofs.lemmas.Grind.{common_steps}
use Rattle.std.proofs.lemmas.Result.{err_from_is_err_and}
use Rattle.cmap_concluding.proofs.FateLaws.{concluding}
use Rattle.cmap_concluding.proofs.AnswerLaws.{by_late, ways_out}
use Rattle.cmap_concluding.proofs.answer_by.Goals as goal

pub late_refusal-requires : goal.late_refusal-requires
late_refusal-requires c = search concluding

pub returns-in_err-late_refusal : goal.returns-in_err-late_refusal
returns-in_err-late_refusal c =
    let p = err_from_is_err_and c.from_residual.result c.from_residual.ensures.1 in
    let q : c.late_refusal.result ≡ Err c.in_err-late_refusal.field-0.0 = grind (arith, common_steps) in
    rw (p.1, p.2) (by_late _ _ _ c.late_refusal.result c.late_refusal.ensures _ q)

pub result_length-bytes-requires : goal.result_length-bytes-requires
result_length-bytes-requires c = search concluding

pub returns-then-room-bytes : goal.returns-then-room-bytes
returns-then-room-bytes c =
    let q : c.late_refusal.result ≡ Ok c.in_ok-late_refusal.field-0 = grind (arith, common_steps) in
    search ways_out

pub returns : goal.returns
returns c =
    let q : c.late_refusal.result ≡ Ok c.in_ok-late_refusal.field-0 = grind (arith, common_steps) in
    search ways_out
