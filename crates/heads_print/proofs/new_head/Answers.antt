-- An accepted header has room for its records; a refused one is 5.
use mathlib.Core.Path.{◌≡◌, ◌∙◌}
use native.Mathlib.Omega.{arith}
use Rattle.std.specs.Prelude.{Some, None, Err}
use Rattle.std.proofs.lemmas.Grind.{common_steps}
use Rattle.heads.specs.declared.HeadRefusal.TheVariants.{BadHeader}
use Rattle.heads.proofs.HeadsLaws.{records_fit, head_refused, by_header}
use Rattle.heads_print.proofs.new_head.Goals as goal

pub returns-in_err-n : goal.returns-in_err-n
returns-in_err-n c =
    let h : c.header_of.result ≡ None = grind (arith, common_steps) in
    let e : c.from_residual.result ≡ Err BadHeader = grind (arith, common_steps) in
    e ∙ head_refused _ _ _ c.header_of.ensures h

pub new_of-requires : goal.new_of-requires
new_of-requires c =
    let h : c.header_of.result ≡ Some c.in_ok-n.n = grind (arith, common_steps) in
    search records_fit

pub returns : goal.returns
returns c =
    let h : c.header_of.result ≡ Some c.in_ok-n.n = grind (arith, common_steps) in
    search by_header
