-- Each answer is that of the definition's test that the code has made.
use mathlib.Core.Path.{refl}
use native.Mathlib.Omega.{arith}
use Rattle.laws.proofs.ChoiceLaws.{if_lt_lem}
use Rattle.heads_lookup.specs.Lookup.{in_segment}
use Rattle.heads_lookup_at.proofs.SegmentLaws.{segment_answers}
use Rattle.heads_lookup_at.proofs.in_segment.Goals as goal

pub returns-then-c-start_code : goal.returns-then-c-start_code
unfolding in_segment
returns-then-c-start_code c = if_lt_lem _ _ _ _ (omega arith) refl

pub returns-then-id_range_offset-eq0 : goal.returns-then-id_range_offset-eq0
returns-then-id_range_offset-eq0 c = search segment_answers

pub returns : goal.returns
returns c = search segment_answers
