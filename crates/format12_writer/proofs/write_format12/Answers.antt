-- The header, and behind it the groups.
use Rattle.format12_writer.proofs.SubtableLaws.{header_room, written_table}
use Rattle.format12_writer.proofs.write_format12.Goals as goal

pub write_header-requires : goal.write_header-requires
write_header-requires c = header_room _ _ _ _ _ c.requires.groups_room c.requires.columns

pub returns : goal.returns
returns c = search written_table
