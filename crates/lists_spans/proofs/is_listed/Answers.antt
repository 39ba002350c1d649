-- The tests are the definition's own.
use Rattle.laws.proofs.ChoiceLaws.{tests}
use Rattle.lists_marks.specs.Marks.{listed_whole}
use Rattle.lists_spans.proofs.is_listed.Goals as goal

pub returns-then-end-start : goal.returns-then-end-start
unfolding listed_whole
returns-then-end-start c = search tests

pub returns-then-points-near : goal.returns-then-points-near
unfolding listed_whole
returns-then-points-near c = search tests

pub returns-then-points-near-2 : goal.returns-then-points-near-2
unfolding listed_whole
returns-then-points-near-2 c = search tests

pub returns-then-points-near-3 : goal.returns-then-points-near-3
unfolding listed_whole
returns-then-points-near-3 c = search tests

pub returns : goal.returns
unfolding listed_whole
returns c = search tests
