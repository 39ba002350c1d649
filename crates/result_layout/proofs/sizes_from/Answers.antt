use Rattle.result_layout.proofs.LayoutLaws.{sum_few, sum_told}
use Rattle.result_layout.proofs.sizes_from.Goals as goal

pub add_sizes-requires : goal.add_sizes-requires
add_sizes-requires c = sum_few _ _ c.requires.outcomes_told

pub returns : goal.returns
returns c = sum_told _ _ c.requires.outcomes_told _ c.add_sizes.ensures
