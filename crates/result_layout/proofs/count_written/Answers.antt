use mathlib.Core.Path.{◌≡◌, ◌∙◌}
use native.Mathlib.Omega.{arith}
use borrow.Author.Rules.{rules}
use lib.ListN.{length}
use Rattle.std.specs.Prelude.{count_by}
use Rattle.plan.specs.Outcomes.{is_written}
use Rattle.result.proofs.CountLaws.{count_few}
use Rattle.result_layout.proofs.LayoutLaws.{count_is}
use Rattle.result_layout.proofs.count_written.Goals as goal

pub returns : goal.returns
returns c = let os = c.args.outcomes.now in
    let e : c.count.result ≡ count_by is_written os = search rules in
    (e ∙ count_is os, omega (arith, e, count_is os, count_few os (length os) 0))
