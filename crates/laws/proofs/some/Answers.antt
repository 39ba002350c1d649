-- Where the test answers as p, the loop goes by p.
use Rattle.std.proofs.Common.{rules, true, false}
use Rattle.laws.proofs.SearchLaws.{asking}
use Rattle.laws.proofs.some.Goals as goal

pub returns-then-passes : goal.returns-then-passes
returns-then-passes g c = λ p h.
    let l = c.loop-i.invariant p h in
    let e = h c.loop-i.i true (search rules) (search rules) in
    search (rules, asking)

pub loop-i-preserved : goal.loop-i-preserved
loop-i-preserved g c = λ p h.
    let l = c.loop-i.invariant p h in
    let e = h c.loop-i.i false (search rules) (search rules) in
    search (rules, asking)

pub returns : goal.returns
returns g c = λ p h.
    let l = c.loop-i.invariant p h in
    search (rules, asking)
