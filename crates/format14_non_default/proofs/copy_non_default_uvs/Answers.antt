-- The mappings, then the count right before them; with none counted nothing is written.
use Rattle.format14_uvs.proofs.TablesLaws.{writes}
use Rattle.format14_uvs.specs.NonDefault.{new_non_default}
use Rattle.format14_non_default.proofs.copy_non_default_uvs.Goals as goal

pub returns-then-out-to-lt4 : goal.returns-then-out-to-lt4
unfolding new_non_default
returns-then-out-to-lt4 c = search writes

pub copy_mappings-n-requires : goal.copy_mappings-n-requires
unfolding new_non_default
copy_mappings-n-requires c = search writes

pub returns-then-n-eq0 : goal.returns-then-n-eq0
unfolding new_non_default
returns-then-n-eq0 c = search writes

pub returns : goal.returns
unfolding new_non_default
returns c = search writes
