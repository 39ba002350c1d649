-- The code point and the new glyph make the number of the mapping's bytes; the glyph is missing where the map gives the absent one.
use Rattle.format14_mapping.proofs.MappingLaws.{mix_is, bad_new}
use Rattle.format14_mapping.proofs.mix_mapping.Goals as goal

pub returns-then-bad-clause-sum_value : goal.returns-then-bad-clause-sum_value
returns-then-bad-clause-sum_value c = search mix_is

pub returns-else-bad-clause-sum_value : goal.returns-else-bad-clause-sum_value
returns-else-bad-clause-sum_value c = search mix_is

pub returns-else-bad-clause-bad_value : goal.returns-else-bad-clause-bad_value
returns-else-bad-clause-bad_value c = search bad_new
