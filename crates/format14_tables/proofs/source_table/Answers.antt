-- The selector is looked up first, then its table is asked whether it counts.
use Rattle.format14.proofs.ByNumberLaws.{source_rules}
use Rattle.format14_tables.proofs.source_table.Goals as goal

pub returns-then-counts : goal.returns-then-counts
returns-then-counts c = search source_rules

pub returns-else-counts : goal.returns-else-counts
returns-else-counts c = search source_rules

pub returns-else-member : goal.returns-else-member
returns-else-member c = search source_rules
