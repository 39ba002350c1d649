-- Every case holds, by computation.
use mathlib.Core.Path.{◌≡◌, refl}
use mathlib.Core.Bool.{true}
use Rattle.laws.specs.Choice.{if_lt, if_le, if_eq}
use Rattle.laws.specs.Search.{first, some}
use Rattle.laws.specs.Select.{each, select, any_of, flat, eq_list}
use Rattle.laws.specs.Pieces.{pieces, concat}
use Rattle.number.specs.BigEndian.{be, enc}
use Rattle.number.specs.Row.{encs}
use Rattle.format4_cutting.specs.Cutting.{commit_run, cut_runs}
use Rattle.format4.specs.Format4.{offsets_from, header4, format4}
use Rattle.format12.specs.Format12.{consecutive, grouped, header12, group_table}
use Rattle.format12_mapped.specs.Mapped12.{clip12, cut12, maps12}
use Rattle.format14_uvs.specs.Tables.{uvs_table}
use Rattle.format14_uvs.specs.Default.{in_ranges, bit_length, longest, follow, new_default}
use Rattle.result_cases.specs.Cases.{cases, edges, good}

pub cases-good : good cases ≡ true
unfolding if_lt if_le if_eq first some each select any_of flat eq_list pieces concat be enc encs commit_run cut_runs offsets_from header4 format4 consecutive grouped header12 group_table clip12 cut12 maps12 uvs_table in_ranges bit_length longest follow new_default
cases-good = refl

pub edges-good : good edges ≡ true
unfolding if_lt if_le if_eq some each eq_list pieces concat be enc encs commit_run cut_runs offsets_from header4 format4 grouped header12 group_table clip12 cut12 maps12
edges-good = refl
