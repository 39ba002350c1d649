use borrow.Author.Rules.{rules}
use Rattle.plan.specs.Plan.{made_plain}
use Rattle.cmap_refusals.proofs.LateLaws.{lacks_told}
use Rattle.cmap_refusals.proofs.lacks_plain.Goals as goal

pub returns : goal.returns
returns c = let p = c.args in
    lacks_told _ _ _ c.requires (c.some.ensures (made_plain p.s.now p.outcomes.now) (λ i b h e. search rules))
