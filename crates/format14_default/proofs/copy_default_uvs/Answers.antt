-- The records, then the count right before them; with none counted nothing is written.
use borrow.Author.Rules.{rules}
use Rattle.format14.proofs.NewLaws.{new_rules}
use Rattle.format14_uvs.proofs.TablesLaws.{write_short}
use Rattle.format14_uvs.specs.Default.{new_default}
use Rattle.format14_default.proofs.copy_default_uvs.Goals as goal

pub returns-then-out-to-lt4-clause-out_after : goal.returns-then-out-to-lt4-clause-out_after
unfolding new_default
returns-then-out-to-lt4-clause-out_after c = search write_short

pub returns-then-out-to-lt4-clause-flags_after : goal.returns-then-out-to-lt4-clause-flags_after
unfolding new_default
returns-then-out-to-lt4-clause-flags_after c = search rules

pub copy_ranges-n-requires-clause-room : goal.copy_ranges-n-requires-clause-room
copy_ranges-n-requires-clause-room c = search new_rules

pub returns-then-n-eq0-clause-out_after : goal.returns-then-n-eq0-clause-out_after
returns-then-n-eq0-clause-out_after c = search new_rules

pub returns-clause-out_after : goal.returns-clause-out_after
returns-clause-out_after c = search new_rules
