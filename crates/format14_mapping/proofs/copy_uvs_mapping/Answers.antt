-- The glyph is written right behind the code point.
use Rattle.format14_mapping.proofs.MappingLaws.{copy_is}
use Rattle.format14_mapping.proofs.copy_uvs_mapping.Goals as goal

pub returns : goal.returns
returns c = search copy_is
