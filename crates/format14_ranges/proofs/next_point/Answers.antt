-- Points without a flag do not count, so passing them by changes nothing.
use borrow.Author.Rules.{rules}
use Rattle.format14_ranges.proofs.StreamLaws.{seeking}
use Rattle.format14_ranges.proofs.next_point.Goals as goal

pub loop-j-init : goal.loop-j-init
loop-j-init c = search (rules, seeking)

pub returns-then-flags-j-ne0 : goal.returns-then-flags-j-ne0
returns-then-flags-j-ne0 c = search (rules, seeking)

pub loop-j-preserved : goal.loop-j-preserved
loop-j-preserved c = search (rules, seeking)

pub returns : goal.returns
returns c = search (rules, seeking)
