-- Where the test answers as p, the loop goes by p.
use Rattle.std.proofs.Common.{rules, true, false}
use Rattle.laws.proofs.SearchLaws.{seeking}
use Rattle.laws.proofs.first_from.Goals as goal

pub loop-i-init : goal.loop-i-init
loop-i-init g c = λ p h. search (rules, seeking)

pub returns-then-passes-clause-value : goal.returns-then-passes-clause-value
returns-then-passes-clause-value g c = λ p h.
    let l = c.loop-i.invariant p h in
    let e = h c.loop-i.i true (search rules) (search rules) (search rules) in
    search (rules, seeking)

pub loop-i-preserved : goal.loop-i-preserved
loop-i-preserved g c = λ p h.
    let l = c.loop-i.invariant p h in
    let e = h c.loop-i.i false (search rules) (search rules) (search rules) in
    search (rules, seeking)

pub returns-clause-value : goal.returns-clause-value
returns-clause-value g c = λ p h.
    let l = c.loop-i.invariant p h in
    search (rules, seeking)
