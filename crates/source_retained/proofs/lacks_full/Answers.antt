use mathlib.Core.Path.{◌≡◌}
use borrow.Author.Rules.{rules}
use Rattle.source_records.specs.Records.{leads_to_format, full_pair, some_retained}
use Rattle.source_retained.proofs.WantedLaws.{retained_some}
use Rattle.source_retained.proofs.lacks_full.Goals as goal

pub returns-then-some_retained : goal.returns-then-some_retained
returns-then-some_retained c =
    let a : c.some_retained.result ≡ some_retained (leads_to_format 12) c.args.s.now = retained_some (leads_to_format 12) _ _ _ c.requires (c.some_retained.ensures _ (λ i b h e. search rules)) in
    let b : c.some_retained-then-some_retained.result ≡ some_retained full_pair c.args.s.now = retained_some full_pair _ _ _ c.requires (c.some_retained-then-some_retained.ensures _ (λ i b h e. search rules)) in
    rw (← a, ← b, c.if-some_retained.true)

pub returns-else-some_retained : goal.returns-else-some_retained
returns-else-some_retained c =
    let a : c.some_retained.result ≡ some_retained (leads_to_format 12) c.args.s.now = retained_some (leads_to_format 12) _ _ _ c.requires (c.some_retained.ensures _ (λ i b h e. search rules)) in
    rw (← a, c.if-some_retained.false)
